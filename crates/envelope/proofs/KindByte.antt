-- The kind of an envelope in the terms of the code: it is one byte, and a longer number is no kind.
-- Assumes nothing.
use mathlib.Core.Path.{◌≡◌, refl, sym, ◌∙◌}
use mathlib.Core.Bool.{Bool, true, false}
use mathlib.Core.List.{List}
use Prim.Native.Nat.{ℕ, zero, suc, ◌+◌, ◌-◌, ◌*◌, ◌≤◌, ◌<◌}
use native.Mathlib.Omega.{arith}
use native.Mathlib.Decide.{dec_lt}
use lib.ListN.{length, get_or, drop}
use borrow.Author.Tests.{le-leb, lt-leb, ne_eqb}
use Rattle.envelope.specs.Numbers.{NumberRead, below, number_in, onward, number_at}
use Rattle.words.specs.Readings.{then}
use Rattle.envelope.specs.Envelopes.{is_kind, job_at, kind_at, envelope_at}
use Rattle.envelope.specs.declared.EnvelopeRefusal.TheVariants.{Cut, Kind}
use Rattle.envelope.proofs.Numbers.{gathers_none, cut_here, one_byte, long_number}
use Rattle.envelope.proofs.Fields.{kind_refused, kind_taken}
use Rattle.envelope.proofs.Sizes.{kind_small}
use Rattle.std.specs.Prelude.{Err, Ok, Result}
use Rattle.envelope.specs.declared.EnvelopeRefusal.{EnvelopeRefusal}
use Rattle.envelope.specs.declared.Envelope.{Envelope}

large_none : (v : ℕ) → 3 < v → is_kind v ≡ false
unfolding is_kind
large_none v h = rw (le-leb 1 v (omega arith), lt-leb v 3 h)

long_none : (limit : ℕ) (s : List ℕ) (at c : ℕ) (z : NumberRead)
    → then (onward at (below c z)) (λ (v next : ℕ). Err Kind) ≡ then (onward at (below c z)) (kind_at limit s)
unfolding kind_at
long_none limit s at c (Err r) = refl
long_none limit s at c (Ok (zero, n)) = refl
long_none limit s at c (Ok (suc x, n)) =
    let z : suc x ≡ 0 → ⊥ = λ (q : suc x ≡ 0). omega arith in
    rw (ne_eqb (suc x) 0 z, large_none (c + 128 * suc x) (omega arith))

module _ (limit : ℕ) (s : List ℕ) (at : ℕ) where
  pub kind_cut : length s ≤ at → Err Cut ≡ envelope_at limit s at
  unfolding envelope_at
  kind_cut h = rw (← cut_here s at 0 at 0 1 0 (gathers_none s at) h)

  module _ (b : ℕ) (t : Bool) (g : at < length s) (e : b ≡ get_or s at 0) (f : t ≡ is_kind b) where
    pub kind_none : (a : Result Envelope EnvelopeRefusal) (n : NumberRead) → t ≡ false → n ≡ number_at s at → a ≡ then n (λ (v next : ℕ). Err Kind) → a ≡ envelope_at limit s at
    unfolding envelope_at
    kind_none a n h p q =
        q ∙ rw p (elim (dec_lt b 128) [
          | yes k ↦ rw (← one_byte s at b g e k) (kind_refused limit s b (at + 1) t f h)
          | no k ↦ rw (long_number s at b g e (omega arith)) (long_none limit s at (b - 128) (number_in 8 (drop (at + 1) s)))
        ])

    pub kind_went : (a : Result Envelope EnvelopeRefusal) → t ≡ true → a ≡ then (number_at s (at + 1)) (job_at limit s b) → a ≡ envelope_at limit s at
    unfolding envelope_at
    kind_went a h p =
        let k = kind_small b (sym f ∙ h) in
        rw (← one_byte s at b g e (omega (arith, k))) (kind_taken limit s b (at + 1) t f a h p)
