-- What a list that differs from a volume only in field 1, in requests and in the order of fields has in common with it.
use mathlib.Core.Path.{◌≡◌, refl, sym, ap, ◌∙◌}
use mathlib.Core.Bool.{Bool, true, not, ◌||◌}
use mathlib.Core.List.{List}
use Prim.Native.Nat.{ℕ}
use lib.Dec.{eqb}
use Rattle.wire.specs.Fields.{Field, fields}
use Rattle.wire.specs.Kinds.{bucket_below}
use Rattle.calls.specs.Lists.{all_of, in_order, count}
use Rattle.calls.specs.SameFields.{same_bytes, AsOften}
use Rattle.calls.specs.CallList.{bodies, call_list_of, all_trees, keys_ascend, none_twice}
use Rattle.calls.specs.Answers.{read_volume}
use Rattle.calls.specs.History.{is_request, carried}
use Rattle.calls.proofs.lists.AllLaws.{all-imp, test-all}
use Rattle.calls.proofs.lists.BoolLaws.{parts}
use Rattle.calls.proofs.encoding.Blocks.{bodies-those}
use Rattle.calls.proofs.encoding.OftenLaws.{BodiesOften, often-bodies, often-trees, often-reserved}
use Rattle.calls.proofs.encoding.TreeFields.{tree_tags}

-- a tag other than 1, 65 and 66 is carried over
abbrev kept : Field → Bool
kept f = not (eqb f.tag 1 || is_request f)

abbrev kept_tag : ℕ → Bool
kept_tag t = not (eqb t 1 || (eqb t 65 || eqb t 66))

bodies-carried : (s : List ℕ) (t : ℕ) → kept_tag t ≡ true → bodies t (carried s) ≡ bodies t (fields s)
unfolding carried
bodies-carried s t h = bodies-those kept t (λ f e. rw e h) (fields s)

module _ (a b : List ℕ) (same : AsOften (carried a) (carried b)) where
  -- the bodies with such a tag stand as often
  alike : (t : ℕ) → kept_tag t ≡ true → BodiesOften t (fields a) (fields b)
  alike t h x =
      ap (count (same_bytes x)) (sym (bodies-carried a t h)) ∙ often-bodies (carried a) (carried b) same t x ∙ ap (count (same_bytes x)) (bodies-carried b t h)

  module _ (once : none_twice (read_volume a) ≡ true) where
    pub same-trees : (read_volume a).trees ≡ (read_volume b).trees
    unfolding call_list_of none_twice all_of
    same-trees =
        often-trees (fields a) (fields b) (all-imp alike (test-all kept_tag tree_tags refl))
        (parts (all_trees keys_ascend (read_volume a).trees) (in_order bucket_below (read_volume a).reserved) once).0

    pub same-reserved : (read_volume a).reserved ≡ (read_volume b).reserved
    unfolding call_list_of none_twice
    same-reserved =
        often-reserved (fields a) (fields b) (alike 64 refl)
        (parts (all_trees keys_ascend (read_volume a).trees) (in_order bucket_below (read_volume a).reserved) once).1
