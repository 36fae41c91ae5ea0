-- What one pass over a list finds: that it breaks the layout; or where field 1 stands, whether a limit is passed, and whether its fields are in order.
use Rattle.std.specs.Prelude.{Option, Some, None, ℕ, ◌+◌, ◌≤◌, ◌≡◌, Bool, true, false, List, length, take, drop}
use Rattle.calls.specs.CallList.{head_of, none_twice}
use Rattle.calls.specs.Limits.{list_within}
use Rattle.calls.specs.Answers.{read_call, read_volume}
use Rattle.wire.specs.FieldsFound.{FieldFound}
use Rattle.wire.specs.declared.fields.Field as code
use Rattle.reader.specs.CallFields.{head_within, head_field_ok}
use Rattle.reader.specs.Table.{rank_end, ends_in, Fits, Indexed, Ended}
use Rattle.reader.specs.Readings.{laid_as}
use Rattle.reader.specs.declared.survey.Laid.{Laid}

-- fields within the limits, but for the head's: they are counted, and where they are in order the table has their places
pub record Counted (call : ℕ) (s counts index : List ℕ) : Type 0 where
  pub within : head_within (read_volume s).head ≡ true → list_within (read_call s) ≡ true
  pub ends : Ended call s index (ends_in counts)
  pub fits : rank_end counts 8 ≤ 29696
  pub short : length s ≤ 0xffff_ffff

-- a list that is laid out: the body of field 1 starts at `head_at`; there are no `counts` where a limit beside the head's is passed, and `ordered` tells
-- that the fields beside field 1 ascend
pub record LaidFound (call : ℕ) (any : Bool) (s index : List ℕ) (p : Laid) : Type 0 where
  pub laid : laid_as call any s ≡ true
  pub inside : p.head_at + 39 ≤ length s
  pub first : head_of (take 39 (drop p.head_at s)) ≡ (read_volume s).head
  pub past : p.counts ≡ None → list_within (read_call s) ≡ false
  pub counted : (c : List ℕ) → p.counts ≡ Some c → Counted call s c index
  pub once : p.ordered ≡ true → none_twice (read_volume s) ≡ true
  pub table : p.ordered ≡ true → (c : List ℕ) → p.counts ≡ Some c → Indexed call s index (ends_in c)

-- a field 1 of this call, or of any, stands first
pub record HeadAt (call : ℕ) (any : Bool) (s : List ℕ) (f : code.Field) : Type 0 where
  pub tag : f.tag ≡ 1
  pub found : FieldFound s 0 f
  pub ok : head_field_ok call any f.body.now ≡ true

-- so does the field that is answered; none tells nothing of the list
abbrev pub HeadFirst : ℕ → Bool → List ℕ → Option code.Field → Type 0
HeadFirst call any s r = (f : code.Field) → r ≡ Some f → HeadAt call any s f

-- none where the list breaks the layout, else what is found
pub record Surveyed (call : ℕ) (any : Bool) (s index : List ℕ) (r : Option Laid) : Type 0 where
  pub broken : r ≡ None → laid_as call any s ≡ false
  pub found : (p : Laid) → r ≡ Some p → LaidFound call any s index p

-- what is answered is laid out and in order; none tells nothing of the list
pub record OrderSurveyed (call : ℕ) (any : Bool) (s index : List ℕ) (r : Option Laid) : Type 0 where
  pub found : (p : Laid) → r ≡ Some p → LaidFound call any s index p
  pub ordered : (p : Laid) → r ≡ Some p → p.ordered ≡ true
  pub fits : Fits s index
