-- FORMAT.md, "The program bucketlines": the lines of a change list.
use Rattle.std.specs.Prelude.{ℕ, zero, suc, ◌+◌, ◌-◌, ◌/◌, List, [], ◌∷◌, ◌++◌, cond, length, drop, leb, eqb}
use Rattle.wire.specs.Numbers.{le, each}
use Rattle.wire.specs.Fields.{Field, fields}
use Rattle.wire.specs.Keys.{Key, key_of}
use Rattle.wire.specs.Kinds.{bucket_read, bucket_number, sector_read, sector_number}
use Rattle.lines.specs.Digits.{decimal, signed, hexadecimal}

-- words parted by blanks, and the line's end
unfoldable pub line : List (List ℕ) → List ℕ
line [] = 10 ∷ []
line (w ∷ []) = w ++ (10 ∷ [])
line (w ∷ v ∷ ws) = w ++ (32 ∷ line (v ∷ ws))

-- words with a blank before each: a line after its first word
unfoldable pub blanked : List (List ℕ) → List ℕ
blanked ws = each (λ (w : List ℕ). 32 ∷ w) ws

-- so many words of 8 bytes, the last filled with zeros
unfoldable pub words : ℕ → List ℕ → List (List ℕ)
words zero s = []
words (suc n) s = hexadecimal (le 8 s) ∷ words n (drop 8 s)

-- so many signed numbers of 8 bytes
unfoldable pub numbers : ℕ → List ℕ → List (List ℕ)
numbers zero s = []
numbers (suc n) s = signed (le 8 s) ∷ numbers n (drop 8 s)

-- tree, type, inode, offset, size, value words
unfoldable pub key_words : ℕ → Key → List (List ℕ)
key_words tree k =
    decimal tree ∷ decimal k.type ∷ decimal k.pos.inode ∷ decimal k.pos.offset ∷ decimal k.size
    ∷ words ((length k.value + 7) / 8) k.value

-- root, taken, placed, row, sectors, unreserved, end
unfoldable pub root_words : List ℕ → List (List ℕ)
root_words b = (114 ∷ 111 ∷ 111 ∷ 116 ∷ []) ∷ decimal (le 1 b) ∷ []

unfoldable pub taken_words : List ℕ → List (List ℕ)
taken_words b = (116 ∷ 97 ∷ 107 ∷ 101 ∷ 110 ∷ []) ∷ decimal (bucket_number (bucket_read b)) ∷ []

unfoldable pub placed_words : List ℕ → List (List ℕ)
placed_words b =
    (112 ∷ 108 ∷ 97 ∷ 99 ∷ 101 ∷ 100 ∷ []) ∷ decimal (sector_number (sector_read b)) ∷ decimal (le 2 (drop 8 b))
    ∷ decimal (bucket_number (bucket_read (drop 10 b)))
    ∷ decimal (le 1 (drop 14 b))
    ∷ []

unfoldable pub row_words : List ℕ → List (List ℕ)
row_words b =
    (114 ∷ 111 ∷ 119 ∷ []) ∷ hexadecimal (le 8 b) ∷ hexadecimal (le 8 (drop 8 b)) ∷ numbers ((length b - 16) / 8) (drop 16 b)

unfoldable pub sectors_words : List ℕ → List (List ℕ)
sectors_words b = (115 ∷ 101 ∷ 99 ∷ 116 ∷ 111 ∷ 114 ∷ 115 ∷ []) ∷ decimal (le 8 b) ∷ []

unfoldable pub unreserved_words : List ℕ → List (List ℕ)
unreserved_words b = (117 ∷ 110 ∷ 114 ∷ 101 ∷ 115 ∷ 101 ∷ 114 ∷ 118 ∷ 101 ∷ 100 ∷ []) ∷ decimal (bucket_number (bucket_read b)) ∷ []

unfoldable pub end_words : List (List ℕ)
end_words = (101 ∷ 110 ∷ 100 ∷ []) ∷ []

-- a field's words, by its tag
unfoldable pub field_words : Field → List (List ℕ)
field_words f =
    cond (leb f.tag 14) (key_words f.tag (key_of f.body))
    (cond (eqb f.tag 70) (root_words f.body)
    (cond (eqb f.tag 71) (taken_words f.body)
    (cond (eqb f.tag 72) (placed_words f.body)
    (cond (eqb f.tag 73) (row_words f.body)
    (cond (eqb f.tag 74) (sectors_words f.body) (cond (eqb f.tag 75) (unreserved_words f.body) end_words))))))

unfoldable pub change_lines : List ℕ → List ℕ
change_lines s = each (λ (f : Field). line (field_words f)) (fields s)

unfoldable pub refused_line : ℕ → List ℕ
refused_line number = line ((114 ∷ 101 ∷ 102 ∷ 117 ∷ 115 ∷ 101 ∷ 100 ∷ []) ∷ decimal number ∷ [])
