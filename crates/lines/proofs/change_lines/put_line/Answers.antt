use Rattle.std.proofs.Common.{arith, ap, refl, sym, ◌∙◌, ◌≤◌, length}
use mathlib.Core.Logic.{inl, inr, ⊎_elim}
use Rattle.wire.specs.Output.{with_bytes}
use Rattle.lines.specs.Lines.{line, root_words, taken_words, sectors_words, unreserved_words, end_words}
use Rattle.lines.proofs.LineLaws.{tag_is, tag_named, root-size, bucket-size, placed-size, row-size, sectors-size, key_named, words-key, words-root, words-taken, words_placed, words_row, words-sectors, words-unreserved, words-end}
use Rattle.lines.proofs.change_lines.put_line.Goals as goal
use Rattle.lines.proofs.change_lines.put_line.Goals.{In_default}

-- the layout gives each tag a name
pub unwrap-requires : goal.unwrap-requires
unwrap-requires c = tag_named c.args.tag c.args.body.now c.requires c.try_from.result c.try_from.ensures

pub le8-requires : goal.le8-requires
le8-requires c = omega (arith, root-size c.args.tag c.args.body.now c.requires (tag_is c.try_from.ensures c.unwrap.ensures c.in-Root.is))

pub le32-requires : goal.le32-requires
le32-requires c = omega (arith, bucket-size c.args.tag c.args.body.now c.requires (inl (tag_is c.try_from.ensures c.unwrap.ensures c.in-Taken.is)))

pub put_placed-requires : goal.put_placed-requires
put_placed-requires c = omega (arith, placed-size c.args.tag c.args.body.now c.requires (tag_is c.try_from.ensures c.unwrap.ensures c.in-Spot.is))

pub put_row-requires : goal.put_row-requires
put_row-requires c = ⊎_elim (λ e. omega arith) (λ e. omega arith) (row-size c.args.tag c.args.body.now c.requires (tag_is c.try_from.ensures c.unwrap.ensures c.in-Row.is))

pub le64-requires : goal.le64-requires
le64-requires c = omega (arith, sectors-size c.args.tag c.args.body.now c.requires (tag_is c.try_from.ensures c.unwrap.ensures c.in-Sectors.is))

pub le32-requires-in-Unreserved : goal.le32-requires-in-Unreserved
le32-requires-in-Unreserved c = omega (arith, bucket-size c.args.tag c.args.body.now c.requires (inr (tag_is c.try_from.ensures c.unwrap.ensures c.in-Unreserved.is)))

-- a tag that no arm names is a tree's
is_key : (c : In_default) → (c.args.tag ≤ 14) × (37 ≤ length c.args.body.now)
is_key c =
    let d = c.in_default in
    key_named c.args.tag c.args.body.now c.requires c.unwrap.result (tag_is c.try_from.ensures c.unwrap.ensures refl) d.not-Root d.not-Taken d.not-Spot d.not-Row d.not-Sectors d.not-Unreserved d.not-End

pub put_key_line-requires : goal.put_key_line-requires
put_key_line-requires c = (is_key (goal.at.put_key_line-requires c).In_default).1

pub returns-in-Root : goal.returns-in-Root
unfolding root_words
returns-in-Root c = rw (c.put_named.ensures, c.le8.ensures, words-root c.args.tag c.args.body.now (tag_is c.try_from.ensures c.unwrap.ensures c.in-Root.is)) refl

pub returns-in-Taken : goal.returns-in-Taken
unfolding taken_words
returns-in-Taken c = rw (c.put_named-in-Taken.ensures, c.le32.ensures, words-taken c.args.tag c.args.body.now (tag_is c.try_from.ensures c.unwrap.ensures c.in-Taken.is)) refl

pub returns-in-Spot : goal.returns-in-Spot
returns-in-Spot c = rw (c.put_placed.ensures, words_placed c.args.tag c.args.body.now (tag_is c.try_from.ensures c.unwrap.ensures c.in-Spot.is)) refl

pub returns-in-Row : goal.returns-in-Row
returns-in-Row c = rw (c.put_row.ensures, words_row c.args.tag c.args.body.now (tag_is c.try_from.ensures c.unwrap.ensures c.in-Row.is)) refl

pub returns-in-Sectors : goal.returns-in-Sectors
unfolding sectors_words
returns-in-Sectors c = rw (c.put_named-in-Sectors.ensures, c.le64.ensures, words-sectors c.args.tag c.args.body.now (tag_is c.try_from.ensures c.unwrap.ensures c.in-Sectors.is)) refl

pub returns-in-Unreserved : goal.returns-in-Unreserved
unfolding unreserved_words
returns-in-Unreserved c = rw (c.put_named-in-Unreserved.ensures, c.le32-in-Unreserved.ensures, words-unreserved c.args.tag c.args.body.now (tag_is c.try_from.ensures c.unwrap.ensures c.in-Unreserved.is)) refl

pub returns-in-End : goal.returns-in-End
unfolding end_words line
returns-in-End c = rw (c.put_slice.ensures, words-end c.args.tag c.args.body.now (tag_is c.try_from.ensures c.unwrap.ensures c.in-End.is)) refl

pub returns-in_default : goal.returns-in_default
returns-in_default c =
    let k = is_key (goal.at.returns-in_default c).In_default in
    c.put_key_line.ensures ∙ ap (λ ws. with_bytes c.args.out.now (line ws)) (sym (words-key c.args.tag c.args.body.now k.0))
