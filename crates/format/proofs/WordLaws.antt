-- Eight words that make an alloc value are all that is written.
use Rattle.std.proofs.Common.{◌≡◌, ℕ, List, length, take, sym, refl, ap, ◌∙◌, arith}
use lib.Seq.{take-length}
use Rattle.wire.specs.Numbers.{le_bytes, words_bytes}
use Rattle.wire.proofs.EncodeLaws.{words_count}
use Rattle.format.specs.Packing.{struct_bytes}
use Rattle.format.specs.AllocV4.{new_alloc}

new-length : (journal generation dirty clock : ℕ) → length (new_alloc journal generation dirty clock) ≡ 64
unfolding new_alloc struct_bytes le_bytes
new-length journal generation dirty clock = refl

pub all-eight : (w : List ℕ) (journal generation dirty clock : ℕ) → words_bytes w ≡ new_alloc journal generation dirty clock
    → words_bytes (take 8 w) ≡ new_alloc journal generation dirty clock
all-eight w journal generation dirty clock e =
    let n : length w ≡ 8 = omega (arith, words_count w, ap length e, new-length journal generation dirty clock) in
    ap (λ (k : ℕ). words_bytes (take k w)) (sym n) ∙ ap words_bytes (take-length w) ∙ e
