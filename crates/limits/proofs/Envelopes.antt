-- Envelopes read and written at two limits. `envelope_narrow` (crate envelope): the lower one answers the same, or SIZE. Here: a longer envelope is SIZE there;
-- what the lower one reads and writes, the other reads and writes alike, so that envelopes already stored keep their bytes and meaning.
-- Assumes nothing.
use mathlib.Core.Path.{◌≡◌, refl, sym, ◌∙◌}
use mathlib.Core.Bool.{Bool, true, false, cond, ◌&&◌, not}
use mathlib.Core.List.{List}
use mathlib.Core.Logic.{◌⊎◌, inl, inr}
use Prim.Native.Nat.{ℕ, zero, suc, ◌≤◌, ◌<◌}
use native.Mathlib.Omega.{arith}
use borrow.Author.Tests.{le-ltb}
use lib.Dec.{leb, eqb}
use lib.ListN.{length}
use Rattle.words.proofs.Laws.{both_left, both_right}
use Rattle.envelope.specs.Envelopes.{is_kind, size_fits, bytes_for, is_padded, envelope_at, fits, write_envelope}
use Rattle.envelope.specs.Strings.{ended, ends, on_read, walk_from_of, walk}
use Rattle.envelope.specs.declared.EnvelopeRefusal.{EnvelopeRefusal}
use Rattle.envelope.specs.declared.EnvelopeRefusal.TheVariants.{Size}
use Rattle.envelope.specs.declared.Envelope.{Envelope}
use Rattle.envelope.proofs.Numbers.{AllBytes}
use Rattle.envelope.proofs.Sizes.{bits_small}
use Rattle.envelope.proofs.RoundTrip.{read_written}
use Rattle.envelope.proofs.Longer.{fits_more, envelope_narrow}
use Rattle.std.specs.Prelude.{Err, Ok, Result}

never : {A : Type 0} → ◌≡◌ {A = ℕ} 0 1 → A
never z = absurd (omega arith)

module _ (low high : ℕ) (less : low ≤ high) (s : List ℕ) where
  -- AN ENVELOPE ALREADY STORED is read as it was
  pub envelope_kept : (at : ℕ) (e : Envelope) → envelope_at low s at ≡ Ok e → envelope_at high s at ≡ Ok e
  envelope_kept at e p = go (envelope_narrow low high less s at)
    where
      go : (envelope_at low s at ≡ envelope_at high s at) ⊎ (envelope_at low s at ≡ Err Size) → envelope_at high s at ≡ Ok e
      go (inl q) = sym q ∙ p
      go (inr q) = let z : Ok e ≡ Err Size = sym p ∙ q in never (cc)

  -- A LONGER ENVELOPE, which the higher limit accepts, is SIZE at the lower one
  pub envelope_longer : (at : ℕ) (e : Envelope) → AllBytes s → envelope_at high s at ≡ Ok e → low < e.bits
      → envelope_at low s at ≡ Err Size
  envelope_longer at e b p over = go (envelope_narrow low high less s at)
    where
      go : (envelope_at low s at ≡ envelope_at high s at) ⊎ (envelope_at low s at ≡ Err Size) → envelope_at low s at ≡ Err Size
      go (inl q) = let k = bits_small low e.kind e.bits (read_written low s at b e (q ∙ p)).fit.size in absurd (omega arith)
      go (inr q) = q

  -- A STORED STRING of envelopes that was read to its end is read as it was, envelope by envelope
  walk_from : (f at n : ℕ) → (walk_from_of low s f at).ending ≡ ended n → walk_from_of high s f at ≡ walk_from_of low s f at
  unfolding walk_from_of
  walk_from zero at n h = refl
  walk_from (suc f) at n h = go (λ (next : ℕ) (q : (walk_from_of low s f next).ending ≡ ended n). walk_from f next n q) (leb (length s) at) h
    where
      read : ((next : ℕ) → (walk_from_of low s f next).ending ≡ ended n → walk_from_of high s f next ≡ walk_from_of low s f next)
          → (x : Result Envelope EnvelopeRefusal) → envelope_at low s at ≡ x
          → (on_read x at (λ (e : Envelope). walk_from_of low s f e.next)).ending ≡ ended n
          → on_read (envelope_at high s at) at (λ (e : Envelope). walk_from_of high s f e.next) ≡ on_read x at (λ (e : Envelope). walk_from_of low s f e.next)
      read more (Ok e) p q = rw (envelope_kept at e p, more e.next q)
      read more (Err r) p q = never (cc)

      go : ((next : ℕ) → (walk_from_of low s f next).ending ≡ ended n → walk_from_of high s f next ≡ walk_from_of low s f next)
          → (b : Bool)
          → (cond b (ends (ended at)) (on_read (envelope_at low s at) at (λ (e : Envelope). walk_from_of low s f e.next))).ending ≡ ended n
          → cond b (ends (ended at)) (on_read (envelope_at high s at) at (λ (e : Envelope). walk_from_of high s f e.next)) ≡ cond b (ends (ended at)) (on_read (envelope_at low s at) at (λ (e : Envelope). walk_from_of low s f e.next))
      go more true q = refl
      go more false q = read more (envelope_at low s at) refl q

  pub string_kept : (n : ℕ) → (walk low s).ending ≡ ended n → walk high s ≡ walk low s
  unfolding walk
  string_kept n h = walk_from (length s) 0 n h

-- ---- writing: what the lower limit's card writes, the other writes in the same bytes

module _ (low high : ℕ) (less : low ≤ high) (kind job bits : ℕ) (body : List ℕ) (e : fits low kind job bits body ≡ true) where
  fits_kept : fits high kind job bits body ≡ true
  unfolding fits
  fits_kept =
      let rest : Bool = leb (bytes_for bits) (length body) && is_padded bits body in
      let size = size_fits low kind bits in
      let t = both_left size rest
      (both_right (not (eqb job 0)) (size && rest) (both_right (is_kind kind) (not (eqb job 0) && (size && rest)) e))
      in
      rw (fits_more low high kind bits less t) (rw t at e)

  pub written_kept : (room more : ℕ) (out : List ℕ) → room ≤ length out → more ≤ length out
      → write_envelope more high out kind job bits body ≡ write_envelope room low out kind job bits body
  unfolding write_envelope
  written_kept room more out a b = rw (le-ltb (length out) room a, le-ltb (length out) more b, e, fits_kept)
