-- What each field of a call list or a volume must be: by itself, and, where the list is in order, after the field before it.
use Rattle.std.specs.Prelude.{ℕ, List, ◌++◌, Bool, true, not, ◌&&◌, ◌||◌, cond, length, drop, leb, ltb, eqb}
use Rattle.wire.specs.Fields.{Field}
use Rattle.wire.specs.Keys.{Key, key_of}
use Rattle.wire.specs.Order.{pos_less}
use Rattle.wire.specs.Kinds.{bucket_read, bucket_below, bucket_in_range, run_end_in_range, base_in_range}
use Rattle.wire.specs.Positions.{bucket_in}
use Rattle.wire.specs.declared.bpos.Bpos.{Bpos}
use Rattle.calls.specs.Lists.{those}
use Rattle.calls.specs.CallList.{Head, head_of, head_ok, Shape, shaped, volume_shapes, request_shapes}
use Rattle.calls.specs.ChangeList.{field_ok}
use Rattle.calls.specs.Limits.{is_set, at_inode0, is_run}

-- the shapes of the fields after field 1
unfoldable pub rest_shapes : ℕ → List Shape
rest_shapes call = drop 1 (volume_shapes ++ request_shapes call)

unfoldable pub call_field_ok : ℕ → Field → Bool
call_field_ok call f = shaped (rest_shapes call) f && field_ok f

-- field 1, of this call or of any
unfoldable pub head_field_ok : ℕ → Bool → List ℕ → Bool
head_field_ok call any b = eqb (length b) 39 && (head_ok (head_of b) && (any || eqb (head_of b).call call))

-- a field of a list: field 1, or one beside it
unfoldable pub any_field_ok : ℕ → Bool → Field → Bool
any_field_ok call any f = cond (eqb f.tag 1) (head_field_ok call any f.body) (call_field_ok call f)

-- the fields beside field 1
unfoldable pub others : List Field → List Field
others fs = those (λ f. not (eqb f.tag 1)) fs

-- the bytes that the tests below read of a body
abbrev pub least_of : ℕ → ℕ
least_of t = cond (leb t 14) 37 (cond (eqb t 64) 4 0)

-- two bodies of one tag, side by side: keys ascend strictly, and so do reserved buckets
unfoldable pub ascends : ℕ → List ℕ → List ℕ → Bool
ascends t a b =
    cond (leb t 14) (pos_less (key_of a).pos (key_of b).pos) (cond (eqb t 64) (bucket_below (bucket_read a) (bucket_read b)) true)

-- a field and the next: tags ascend
unfoldable pub follows : Field → Field → Bool
follows f g = ltb f.tag g.tag || (eqb f.tag g.tag && ascends f.tag f.body g.body)

-- limits on one key: alloc keys at inode 0, need-discard keys of type 25, type 25 freespace keys at inode 0
abbrev pub alloc_within : Key → Bool
alloc_within k = not (at_inode0 k) || bucket_in_range (bucket_in k.pos)

abbrev pub waiting_within : Key → Bool
waiting_within k = not (is_set k) || bucket_in_range (bucket_in k.pos)

abbrev pub run_within : Key → Bool
run_within k = not (is_run k) || run_end_in_range (bucket_in k.pos)

-- a key of type y at p is within the limits of section t; a reserved bucket is a key at inode 0 and its number
unfoldable pub key_fits : ℕ → ℕ → Bpos → Bool
key_fits t y p =
    cond (eqb t 64) (bucket_in_range (bucket_in p))
    (cond (eqb t 4) (not (eqb p.inode 0) || bucket_in_range (bucket_in p))
    (cond (eqb t 12) (not (eqb y 25) || bucket_in_range (bucket_in p))
    (cond (eqb t 11) (not (eqb y 25 && eqb p.inode 0) || run_end_in_range (bucket_in p)) true)))

-- limits on one field after field 1, and on field 1
unfoldable pub field_within : Field → Bool
field_within f =
    cond (eqb f.tag 4) (alloc_within (key_of f.body))
    (cond (eqb f.tag 11) (run_within (key_of f.body))
    (cond (eqb f.tag 12) (waiting_within (key_of f.body))
    (cond (eqb f.tag 64) (bucket_in_range (bucket_read f.body)) true)))

abbrev pub head_within : Head → Bool
head_within h = leb h.reserve 65536 && base_in_range h.base
