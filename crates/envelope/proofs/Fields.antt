-- Laws of the fields of an envelope in the terms of the code, and of an answer that is taken apart.
-- Assumes nothing.
use mathlib.Core.Path.{◌≡◌, refl, sym, ◌∙◌}
use mathlib.Core.Bool.{Bool, true, false}
use mathlib.Core.List.{List}
use Prim.Native.Nat.{ℕ, zero, suc, ◌+◌, ◌-◌, ◌*◌, ◌/◌, ◌%◌, ◌^◌, ◌≤◌, ◌<◌}
use native.Mathlib.Omega.{arith}
use lib.Dec.{eqb, ltb}
use lib.ListN.{length, get_or, drop}
use lib.Seq.{get_or-drop}
use lib.Pow.{pow_pos}
use borrow.Author.Tests.{ltb-true, ltb-false, le-ltb, lt-ltb, eq-eqb, ne_eqb}
use Rattle.words.proofs.Laws.{cond_yes, cond_no}
use Rattle.envelope.specs.Numbers.{NumberRead, number_at}
use Rattle.words.specs.Readings.{then}
use Rattle.envelope.specs.Envelopes.{is_kind, size_fits, bytes_for, is_padded, body_at, size_at, job_at, kind_at}
use Rattle.envelope.specs.declared.EnvelopeRefusal.{EnvelopeRefusal}
use Rattle.envelope.specs.declared.EnvelopeRefusal.TheVariants.{Cut, Groups, Kind, Size}
use Rattle.envelope.specs.declared.Envelope.{Envelope}
use Rattle.std.specs.Prelude.{Err, Ok, Result}

-- ---- bytes and padding

below8 : (P : ℕ → Type 0) → P 0 → P 1 → P 2 → P 3 → P 4 → P 5 → P 6 → P 7 → (j : ℕ) → j < 8 → P j
below8 P a b c d e f g h zero l = a
below8 P a b c d e f g h (suc zero) l = b
below8 P a b c d e f g h (suc (suc zero)) l = c
below8 P a b c d e f g h (suc (suc (suc zero))) l = d
below8 P a b c d e f g h (suc (suc (suc (suc zero)))) l = e
below8 P a b c d e f g h (suc (suc (suc (suc (suc zero))))) l = f
below8 P a b c d e f g h (suc (suc (suc (suc (suc (suc zero)))))) l = g
below8 P a b c d e f g h (suc (suc (suc (suc (suc (suc (suc zero))))))) l = h
below8 P a b c d e f g h (suc (suc (suc (suc (suc (suc (suc (suc j)))))))) l = absurd (omega arith)

-- the code's weight of the padding's first bit
pub weight : (bits : ℕ) → 128 / 2 ^ ((bits % 8 + 7) % 8) ≡ 2 ^ (8 * bytes_for bits - bits)
unfolding bytes_for
weight bits =
    let e : 8 * ((bits + 7) / 8) - bits ≡ (8 - bits % 8) % 8 = omega arith in
    rw e (below8 (λ (r : ℕ). 128 / 2 ^ ((r + 7) % 8) ≡ 2 ^ ((8 - r) % 8)) refl refl refl refl refl refl refl refl (bits % 8) (omega arith))

pub weight_pos : (bits : ℕ) → 0 < 128 / 2 ^ ((bits % 8 + 7) % 8)
weight_pos bits = rw (weight bits) (pow_pos (8 * bytes_for bits - bits))

pub padded_none : (bits : ℕ) (l : List ℕ) → bytes_for bits ≡ 0 → true ≡ is_padded bits l
unfolding is_padded bytes_for
padded_none bits l e =
    let z : bits ≡ 0 = omega arith in
    let m : get_or l 0 0 % 1 ≡ 0 = omega arith in
    rw (z, m)

pub padded_last : (s : List ℕ) (at bits n b : ℕ) → n ≡ bytes_for bits → (n ≡ 0 → ⊥) → b ≡ get_or s (at + n - 1) 0
    → eqb (b % (128 / 2 ^ ((bits % 8 + 7) % 8))) 0 ≡ is_padded bits (drop at s)
unfolding is_padded
padded_last s at bits n b e z p =
    let q : at + n - 1 ≡ at + (n - 1) = omega arith in
    rw (weight bits, p, q, e, get_or-drop at s (bytes_for bits - 1) 0)

-- ---- a body

abbrev pub at_body : ℕ → ℕ → ℕ → ℕ → ℕ → Envelope
at_body kind job bits at n = record { kind = kind; job = job; bits = bits; body = at; next = at + n }

pub lacks_more : (l at bits n : ℕ) → n ≡ bytes_for bits → l < n → true ≡ ltb l (at + bytes_for bits)
lacks_more l at bits n e h = sym (lt-ltb l (at + bytes_for bits) (omega (arith, e)))

pub lacks_there : (l at bits n : ℕ) → n ≡ bytes_for bits → n ≤ l → ltb (l - n) at ≡ ltb l (at + bytes_for bits)
lacks_there l at bits n e h = by_test (ltb l (at + bytes_for bits)) refl
  where
    by_test : (u : Bool) → ltb l (at + bytes_for bits) ≡ u → ltb (l - n) at ≡ ltb l (at + bytes_for bits)
    by_test true p = let k = ltb-true l (at + bytes_for bits) p in lt-ltb (l - n) at (omega (arith, e, k)) ∙ sym p
    by_test false p = let k = ltb-false l (at + bytes_for bits) p in le-ltb (l - n) at (omega (arith, e, k)) ∙ sym p

pub body_within : (l n : ℕ) (t : Bool) → t ≡ ltb l n → t ≡ false → n ≤ l
body_within l n t e h = ltb-false l n (sym e ∙ h)

module _ (s : List ℕ) (kind job bits at : ℕ) (t : Bool) (e : t ≡ ltb (length s) (at + bytes_for bits)) where
  pub body_cut : t ≡ true → Err Cut ≡ body_at s kind job bits at
  unfolding body_at
  body_cut h = rw (← e, h)

  pub body_is : (p : Bool) (n : ℕ) → t ≡ false → p ≡ is_padded bits (drop at s) → p ≡ true → n ≡ bytes_for bits
      → Ok (at_body kind job bits at n) ≡ body_at s kind job bits at
  unfolding body_at
  body_is p n h q k m = rw (← e, h, ← q, k, m)

  pub body_loud : (p : Bool) → t ≡ false → p ≡ is_padded bits (drop at s) → p ≡ false → Err Size ≡ body_at s kind job bits at
  unfolding body_at
  body_loud p h q k = rw (← e, h, ← q, k)

-- ---- a number is taken apart: its refusal goes up unchanged, or its value goes on

pub handed : (f g : NumberRead) (a : Result Envelope EnvelopeRefusal) (r : EnvelopeRefusal) (k : ℕ → ℕ → Result Envelope EnvelopeRefusal) → f ≡ g
    → f ≡ Err r → a ≡ Err r → a ≡ then g k
handed f g a r k p q e = e ∙ rw (← p, q)

pub went : (f g : NumberRead) (a : Result Envelope EnvelopeRefusal) (v n : ℕ) (k : ℕ → ℕ → Result Envelope EnvelopeRefusal) → f ≡ g → f ≡ Ok (v, n) → a ≡ k v n → a ≡ then g k
went f g a v n k p q e = e ∙ rw (← p, q)

-- ---- the three fields, by the code's tests

module _ (limit : ℕ) (s : List ℕ) (kind at : ℕ) (t : Bool) (e : t ≡ is_kind kind) where
  pub kind_refused : t ≡ false → Err Kind ≡ kind_at limit s kind at
  unfolding kind_at
  kind_refused h = cond_no (is_kind kind) _ _ _ (sym e ∙ h) refl

  pub kind_taken : (a : Result Envelope EnvelopeRefusal) → t ≡ true → a ≡ then (number_at s at) (job_at limit s kind) → a ≡ kind_at limit s kind at
  unfolding kind_at
  kind_taken a h p = cond_yes (is_kind kind) _ _ _ (sym e ∙ h) p

module _ (limit : ℕ) (s : List ℕ) (kind job at : ℕ) where
  pub job_refused : job ≡ 0 → Err Groups ≡ job_at limit s kind job at
  unfolding job_at
  job_refused h = rw (eq-eqb job 0 h)

  pub job_taken : (a : Result Envelope EnvelopeRefusal) → (job ≡ 0 → ⊥) → a ≡ then (number_at s at) (size_at limit s kind job) → a ≡ job_at limit s kind job at
  unfolding job_at
  job_taken a h p = cond_no (eqb job 0) _ _ _ (ne_eqb job 0 h) p

module _ (limit : ℕ) (s : List ℕ) (kind job bits at : ℕ) (t : Bool) (e : t ≡ size_fits limit kind bits) where
  pub size_refused : t ≡ false → Err Size ≡ size_at limit s kind job bits at
  unfolding size_at
  size_refused h = cond_no (size_fits limit kind bits) _ _ _ (sym e ∙ h) refl

  pub size_taken : (a : Result Envelope EnvelopeRefusal) → t ≡ true → a ≡ body_at s kind job bits at → a ≡ size_at limit s kind job bits at
  unfolding size_at
  size_taken a h p = cond_yes (size_fits limit kind bits) _ _ _ (sym e ∙ h) p
