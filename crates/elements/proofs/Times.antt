-- A time: what is written is read back, and what is read stands there.
-- Assumes nothing.
use mathlib.Core.Path.{◌≡◌}
use mathlib.Core.Bool.{◌&&◌}
use mathlib.Core.List.{List, ◌++◌}
use Prim.Native.Nat.{ℕ, ◌≤◌}
use Rattle.bits.proofs.Numbers.{Bits}
use Rattle.fields.specs.Encodings.{whole_bits, whole_fits}
use Rattle.elements.specs.declared.values.Time.{Time}
use Rattle.elements.specs.Arguments.{time_fits, time_bits, time_at}
use Rattle.elements.proofs.Standing.{Stands}
use Rattle.elements.proofs.Whole.{Ranged, ranged}
use Rattle.elements.proofs.Pairs.{pair_reads, pair_stands}
use Rattle.std.specs.Prelude.{Err, Ok}

hours : Ranged 0 23
hours = ranged _ _ tt tt

minutes : (h : ℕ) → h ≤ 23 → Ranged 0 59
minutes h p = ranged _ _ tt tt

made : ℕ → ℕ → Time
made h m = record { hours = h; minutes = m }

pub time_reads : (l : List ℕ) (at next : ℕ) (x : Time) → Stands l at (time_fits x) (time_bits x) next → time_at l at ≡ Ok (x, next)
unfolding time_fits time_bits time_at made
time_reads l at next x s = pair_reads Err (λ (u v n : ℕ). Ok (made u v, n)) 0 23 (λ _. 0) (λ _. 59) hours minutes l at x.hours x.minutes next s

pub time_stands : (l : List ℕ) (at next : ℕ) (x : Time) → Bits l → time_at l at ≡ Ok (x, next)
    → Stands l at (time_fits x) (time_bits x) next
unfolding time_fits time_bits time_at made
time_stands l at next x b e =
    pair_stands made 0 23 (λ _. 0) (λ _. 59) hours minutes l at x next b
    (λ (h m : ℕ) (s : Stands l at (whole_fits 0 23 h && whole_fits 0 59 m) (whole_bits 0 23 h ++ whole_bits 0 59 m) next) (g : made h m ≡ x).
    rw (← g) s)
    e
