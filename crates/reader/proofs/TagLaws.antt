-- A tag that has no name: no field of a list has it.
use Prim.Native.Nat.{ℕ, ◌≤◌, ◌<◌}
use mathlib.Core.Path.{◌≡◌, sym}
use mathlib.Core.List.{List}
use mathlib.Core.Bool.{true, false}
use native.Mathlib.Omega.{arith}
use borrow.Author.Tests.{ne_eqb}
use Rattle.std.specs.Prelude.{Result, Ok, Err}
use Rattle.std.specs.Result.{result_ok}
use Rattle.wire.specs.Tags.{tag_number, TagNamed}
use Rattle.wire.specs.declared.bpos.Bpos.{Bpos}
use Rattle.wire.specs.declared.tags.Tag.{Tag}
use Rattle.wire.specs.declared.tags.Tag.TheVariants.{Key, Reserved, Piece, Freed, Root, Taken, Spot, Row, Sectors, Unreserved, End}
use Rattle.wire.specs.declared.trees.Tree.TheVariants.{Extents, Alloc, Lru, Freespace, NeedDiscard, Backpointers, BucketGens}
use Rattle.wire.specs.declared.tags.UnknownTag.{UnknownTag}
use Rattle.reader.specs.NamedFields.{TagOf}
use Rattle.reader.specs.Bodies.{change_field_ok}
use Rattle.reader.specs.CallFields.{call_field_ok, key_fits, field_within}
use Rattle.reader.specs.Table.{rank_of}
use Rattle.reader.proofs.ShapeLaws.{change-none, call_none}
use Rattle.reader.proofs.OrderingLaws.{within-others}

-- the tag that was looked up by a number, or none
pub tag_of : {n : ℕ} (r : Result Tag UnknownTag) → TagNamed n r → TagOf n (result_ok r)
tag_of (Ok t) h =
    record {
      is = λ u e.
          let z : t ≡ u = cc in
          rw (← z) h;
      none = λ e. absurd (let z : ◌≡◌ {A = ℕ} 0 1 = cc in omega arith);
    }
tag_of (Err x) h = record { is = λ u e. absurd (let z : ◌≡◌ {A = ℕ} 0 1 = cc in omega arith); none = λ e. h.1 }

module _ {n : ℕ} (u : (t : Tag) → n ≡ tag_number t → ⊥) where
  no_key : 10 ≤ n → n < 15 → ⊥
  no_key l m =
      omega (arith, u (Key Lru), u (Key Freespace), u (Key NeedDiscard), u (Key Backpointers), u (Key BucketGens))

  pub change-unnamed : (body : List ℕ) → false ≡ change_field_ok (record { tag = n; body = body })
  change-unnamed body =
      sym
      (change-none n body (u (Key Extents)) (u (Key Alloc)) no_key (u Root) (u Taken) (u Unreserved) (u Spot) (u Row) (u Sectors) (u End))

  pub call-unnamed : (call : ℕ) (body : List ℕ) → false ≡ call_field_ok call (record { tag = n; body = body })
  call-unnamed call body = sym (call_none call n body (u (Key Alloc)) no_key (u Reserved) (u Piece) (u Freed))

  pub fits-unnamed : (y : ℕ) (p : Bpos) → true ≡ key_fits n y p
  unfolding key_fits
  fits-unnamed y p =
      simp (
        ne_eqb n 64 (u Reserved),
        ne_eqb n 4 (u (Key Alloc)),
        ne_eqb n 12 (u (Key NeedDiscard)),
        ne_eqb n 11 (u (Key Freespace)),
      )

  pub within-unnamed : (body : List ℕ) → true ≡ field_within (record { tag = n; body = body })
  within-unnamed body = sym (within-others n body (u (Key Alloc)) (u (Key Freespace)) (u (Key NeedDiscard)) (u Reserved))

  pub rank-unnamed : 7 ≡ rank_of n
  unfolding rank_of
  rank-unnamed =
      simp (
        ne_eqb n 4 (u (Key Alloc)),
        ne_eqb n 10 (u (Key Lru)),
        ne_eqb n 11 (u (Key Freespace)),
        ne_eqb n 12 (u (Key NeedDiscard)),
        ne_eqb n 13 (u (Key Backpointers)),
        ne_eqb n 14 (u (Key BucketGens)),
        ne_eqb n 64 (u Reserved),
      )
