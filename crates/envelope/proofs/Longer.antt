-- How the answer depends on what it is read from: bytes that follow change nothing but CUT; an envelope reads alike
-- wherever it begins; and a smaller limit answers SIZE or the same.
-- Assumes nothing.
use mathlib.Core.Path.{◌≡◌, refl, sym, ◌∙◌}
use mathlib.Core.Bool.{Bool, true, false, cond}
use mathlib.Core.List.{List, ◌++◌}
use mathlib.Core.Logic.{◌⊎◌, inl, inr}
use Prim.Native.Nat.{ℕ, ◌+◌, ◌-◌, ◌≤◌}
use native.Mathlib.Omega.{arith}
use native.Mathlib.Decide.{dec_lt}
use lib.Dec.{ltb, eqb}
use lib.ListN.{length, drop, length-append, length-drop, drop_of_length-le}
use lib.Seq.{drop-drop, drop-append-le}
use borrow.Author.Tests.{le-ltb, lt-ltb, le-leb, ltb-false}
use Rattle.envelope.specs.Numbers.{NumberRead, number_in, onward, number_at}
use Rattle.words.specs.Readings.{then}
use Rattle.envelope.specs.Envelopes.{is_kind, size_fits, bytes_for, is_padded, body_at, size_at, job_at, kind_at, envelope_at, moved}
use Rattle.envelope.specs.declared.EnvelopeRefusal.TheVariants.{Cut, Groups, Kind, Size}
use Rattle.envelope.specs.declared.Envelope.{Envelope}
use Rattle.envelope.proofs.Numbers.{number_nil, stays}
use Rattle.envelope.proofs.Sizes.{padded_front, bits_small}
use Rattle.std.specs.Prelude.{Err, Ok, Result}
use Rattle.envelope.specs.declared.EnvelopeRefusal.{EnvelopeRefusal}

-- ---- bytes that follow

onward_live : (at : ℕ) (y z : NumberRead) → onward at y ≡ z → (z ≡ Err Cut → ⊥) → y ≡ Err Cut → ⊥
onward_live at y z e live p = live (sym e ∙ rw p)

number_within : (s t : List ℕ) (at : ℕ) (z : NumberRead) → at ≤ length s → number_at s at ≡ z → (z ≡ Err Cut → ⊥)
    → number_at (s ++ t) at ≡ z
unfolding number_at
number_within s t at z h e live =
    rw (drop-append-le at s t h, stays 9 (drop at s) t (number_in 9 (drop at s)) refl (onward_live at (number_in 9 (drop at s)) z e live)) e

number_past : (s : List ℕ) (at : ℕ) → length s ≤ at → number_at s at ≡ Err Cut
unfolding number_at
number_past s at h = rw (drop_of_length-le s h, number_nil 9)

pub number_stays : (s t : List ℕ) (at : ℕ) (z : NumberRead) → number_at s at ≡ z → (z ≡ Err Cut → ⊥) → number_at (s ++ t) at ≡ z
number_stays s t at z e live =
    elim (dec_lt (length s) at) [
      | yes h ↦ absurd (live (sym e ∙ number_past s at (omega arith)))
      | no h ↦ number_within s
          t at z (omega arith) e live
    ]

-- a number, then what follows it
then_stays : (s t : List ℕ) (at : ℕ) (k l : ℕ → ℕ → Result Envelope EnvelopeRefusal) (y : NumberRead) (z : Result Envelope EnvelopeRefusal) → number_at s at ≡ y
    → then y k ≡ z → (z ≡ Err Cut → ⊥) → ((v n : ℕ) → k v n ≡ z → l v n ≡ z) → then (number_at (s ++ t) at) l ≡ z
then_stays s t at k l (Ok (v, n)) z p e live f =
    let x : ◌≡◌ {A = NumberRead} (Ok (v, n)) (Err Cut) → ⊥ = λ (q : ◌≡◌ {A = NumberRead} (Ok (v, n)) (Err Cut)). (let o : ◌≡◌ {A = ℕ} 0 1 = cc in omega arith) in
    rw (number_stays s t at (Ok (v, n)) p x) (f v n e)
then_stays s t at k l (Err r) z p e live f =
    let x : ◌≡◌ {A = NumberRead} (Err r) (Err Cut) → ⊥ = λ (q : ◌≡◌ {A = NumberRead} (Err r) (Err Cut)). live (sym e ∙ (let o : r ≡ Cut = cc in rw o)) in
    rw (number_stays s t at (Err r) p x) e

module _ (s t : List ℕ) (z : Result Envelope EnvelopeRefusal) (live : z ≡ Err Cut → ⊥) where
  body_stays : (kind job bits at : ℕ) (b : Bool) → ltb (length s) (at + bytes_for bits) ≡ b
      → body_at s kind job bits at ≡ z → body_at (s ++ t) kind job bits at ≡ z
  unfolding body_at
  body_stays kind job bits at true p e = absurd (live (sym e ∙ rw p))
  body_stays kind job bits at false p e =
      let h = ltb-false (length s) (at + bytes_for bits) p in
      let l : bytes_for bits ≤ length (drop at s) = rw (length-drop at s) (omega arith) in
      let m = length-append s t in
      rw (
        le-ltb (length (s ++ t)) (at + bytes_for bits) (omega arith),
        drop-append-le at s t (omega arith),
        padded_front
            bits (drop at s) t l,
      ) (rw p at e)

  size_stays : (limit kind job bits at : ℕ) (b : Bool) → size_fits limit kind bits ≡ b
      → size_at limit s kind job bits at ≡ z → size_at limit (s ++ t) kind job bits at ≡ z
  unfolding size_at
  size_stays limit kind job bits at true p e = rw p (body_stays kind job bits at (ltb (length s) (at + bytes_for bits)) refl (rw p at e))
  size_stays limit kind job bits at false p e = rw p (rw p at e)

  job_stays : (limit kind job at : ℕ) (b : Bool) → eqb job 0 ≡ b → job_at limit s kind job at ≡ z → job_at limit (s ++ t) kind job at ≡ z
  unfolding job_at
  job_stays limit kind job at true p e = rw p (rw p at e)
  job_stays limit kind job at false p e =
      rw p (then_stays s t at (size_at limit s kind job) (size_at limit (s ++ t) kind job) (number_at s at) z refl
      (rw p at e) live (λ (bits n : ℕ) (q : size_at limit s kind job bits n ≡ z). size_stays limit kind job bits
      n (size_fits limit kind bits) refl q))

  kind_stays : (limit kind at : ℕ) (b : Bool) → is_kind kind ≡ b → kind_at limit s kind at ≡ z → kind_at limit (s ++ t) kind at ≡ z
  unfolding kind_at
  kind_stays limit kind at false p e = rw p (rw p at e)
  kind_stays limit kind at true p e =
      rw p (then_stays s t at (job_at limit s kind) (job_at limit (s ++ t) kind) (number_at s at) z refl (rw p at e) live
      (λ (job n : ℕ) (q : job_at limit s kind job n ≡ z). job_stays limit kind job n (eqb job 0) refl q))

  -- an answer other than CUT stays when bytes follow
  pub envelope_stays : (limit at : ℕ) → envelope_at limit s at ≡ z → envelope_at limit (s ++ t) at ≡ z
  unfolding envelope_at
  envelope_stays limit at e =
      then_stays s t at (kind_at limit s) (kind_at limit (s ++ t)) (number_at s at) z refl e live
      (λ (kind n : ℕ) (q : kind_at limit s kind n ≡ z). kind_stays limit kind n (is_kind kind) refl q)

-- ---- wherever it begins

number_shifted : (s : List ℕ) (by at : ℕ) → number_at s (by + at) ≡ onward by (number_at (drop by s) at)
unfolding number_at
number_shifted s by at = rw (drop-drop at by s) (go (number_in 9 (drop (by + at) s)))
  where
    go : (z : NumberRead) → onward (by + at) z ≡ onward by (onward at z)
    go (Ok (v, n)) = let e : by + at + n ≡ by + (at + n) = omega arith in rw e
    go (Err r) = refl

then_shifted : (s : List ℕ) (by at : ℕ) (k l : ℕ → ℕ → Result Envelope EnvelopeRefusal) → ((v n : ℕ) → k v (by + n) ≡ moved by (l v n))
    → then (number_at s (by + at)) k ≡ moved by (then (number_at (drop by s) at) l)
then_shifted s by at k l f = rw (number_shifted s by at) (go (number_at (drop by s) at))
  where
    go : (z : NumberRead) → then (onward by z) k ≡ moved by (then z l)
    go (Ok (v, n)) = f v n
    go (Err r) = refl

moved_cond : (by : ℕ) (b : Bool) (x y : Result Envelope EnvelopeRefusal) → cond b (moved by x) (moved by y) ≡ moved by (cond b x y)
moved_cond by true x y = refl
moved_cond by false x y = refl

moved_body : (by : ℕ) (a b : Bool) (e : Envelope)
    → cond a (Err Cut) (cond b (moved by (Ok e)) (Err Size)) ≡ moved by (cond a (Err Cut) (cond b (Ok e) (Err Size)))
moved_body by true b e = refl
moved_body by false true e = refl
moved_body by false false e = refl

ltb_shifted : (n by m : ℕ) → by ≤ n → ltb n (by + m) ≡ ltb (n - by) m
ltb_shifted n by m h =
    elim (dec_lt n (by + m)) [
      | yes g ↦ lt-ltb n (by + m) g ∙ sym (lt-ltb (n - by) m (omega arith))
      | no g ↦ le-ltb n
          (by + m) (omega arith) ∙ sym (le-ltb (n - by) m (omega arith))
    ]

module _ (s : List ℕ) (by : ℕ) (h : by ≤ length s) where
  body_shifted : (kind job bits at : ℕ) → body_at s kind job bits (by + at) ≡ moved by (body_at (drop by s) kind job bits at)
  unfolding body_at
  body_shifted kind job bits at =
      let e : by + at + bytes_for bits ≡ by + (at + bytes_for bits) = omega arith in
      rw (e, ltb_shifted (length s) by (at + bytes_for bits) h, ← length-drop by s, ← drop-drop at by s) (moved_body by (ltb (length (drop by s)) (at + bytes_for bits)) (is_padded bits (drop at (drop by s))) (record { kind = kind; job = job; bits = bits; body = at; next = at + bytes_for bits }))

  size_shifted : (limit kind job bits at : ℕ)
      → size_at limit s kind job bits (by + at) ≡ moved by (size_at limit (drop by s) kind job bits at)
  unfolding size_at
  size_shifted limit kind job bits at =
      rw (body_shifted kind job bits at) (moved_cond by (size_fits limit kind bits) (body_at (drop by s) kind job bits at) (Err Size))

  job_shifted : (limit kind job at : ℕ) → job_at limit s kind job (by + at) ≡ moved by (job_at limit (drop by s) kind job at)
  unfolding job_at
  job_shifted limit kind job at =
      rw (then_shifted s by at (size_at limit s kind job) (size_at limit (drop by s) kind job)
      (λ (bits n : ℕ). size_shifted limit kind job bits n)) (moved_cond by (eqb job 0) (Err Groups)
      (then (number_at (drop by s) at) (size_at limit (drop by s) kind job)))

  kind_shifted : (limit kind at : ℕ) → kind_at limit s kind (by + at) ≡ moved by (kind_at limit (drop by s) kind at)
  unfolding kind_at
  kind_shifted limit kind at =
      rw (then_shifted s by at (job_at limit s kind) (job_at limit (drop by s) kind)
      (λ (job n : ℕ). job_shifted limit kind job n))
      (moved_cond by (is_kind kind) (then (number_at (drop by s) at) (job_at limit (drop by s) kind)) (Err Kind))

  -- an envelope reads alike wherever it begins
  pub envelope_shifted : (limit at : ℕ) → envelope_at limit s (by + at) ≡ moved by (envelope_at limit (drop by s) at)
  unfolding envelope_at
  envelope_shifted limit at =
      then_shifted s by at (kind_at limit s) (kind_at limit (drop by s)) (λ (kind n : ℕ). kind_shifted limit kind n)

-- ---- a smaller limit

pub fits_more : (l m kind bits : ℕ) → l ≤ m → size_fits l kind bits ≡ true → size_fits m kind bits ≡ true
unfolding size_fits
fits_more l m kind bits h e =
    let b = bits_small l kind bits e in
    rw (le-leb bits m (omega arith)) (rw (le-leb bits l b) at e)

module _ (l m : ℕ) (h : l ≤ m) (s : List ℕ) where
  size_narrow : (kind job bits at : ℕ) (b : Bool) → size_fits l kind bits ≡ b
      → (size_at l s kind job bits at ≡ size_at m s kind job bits at) ⊎ (size_at l s kind job bits at ≡ Err Size)
  unfolding size_at
  size_narrow kind job bits at true p = inl (rw (p, fits_more l m kind bits h p))
  size_narrow kind job bits at false p = inr (rw p)

  then_narrow : (z : NumberRead) (j k : ℕ → ℕ → Result Envelope EnvelopeRefusal) → ((v n : ℕ) → (j v n ≡ k v n) ⊎ (j v n ≡ Err Size))
      → (then z j ≡ then z k) ⊎ (then z j ≡ Err Size)
  then_narrow (Ok (v, n)) j k f = f v n
  then_narrow (Err r) j k f = inl refl

  cond_narrow : (b : Bool) (x y r : Result Envelope EnvelopeRefusal) → (x ≡ y) ⊎ (x ≡ Err Size) → (cond b x r ≡ cond b y r) ⊎ (cond b x r ≡ Err Size)
  cond_narrow true x y r f = f
  cond_narrow false x y r f = inl refl

  cond_narrow_no : (b : Bool) (x y r : Result Envelope EnvelopeRefusal) → (x ≡ y) ⊎ (x ≡ Err Size)
      → (cond b r x ≡ cond b r y) ⊎ (cond b r x ≡ Err Size)
  cond_narrow_no false x y r f = f
  cond_narrow_no true x y r f = inl refl

  job_narrow : (kind job at : ℕ) → (job_at l s kind job at ≡ job_at m s kind job at) ⊎ (job_at l s kind job at ≡ Err Size)
  unfolding job_at
  job_narrow kind job at =
      cond_narrow_no (eqb job 0) _ _ (Err Groups) (then_narrow (number_at s at) (size_at l s kind job)
      (size_at m s kind job) (λ (bits n : ℕ). size_narrow kind job bits n (size_fits l kind bits) refl))

  kind_narrow : (kind at : ℕ) → (kind_at l s kind at ≡ kind_at m s kind at) ⊎ (kind_at l s kind at ≡ Err Size)
  unfolding kind_at
  kind_narrow kind at =
      cond_narrow (is_kind kind) _ _ (Err Kind)
      (then_narrow (number_at s at) (job_at l s kind) (job_at m s kind) (λ (job n : ℕ). job_narrow kind job n))

  -- a reader with a smaller limit answers the same, or SIZE
  pub envelope_narrow : (at : ℕ) → (envelope_at l s at ≡ envelope_at m s at) ⊎ (envelope_at l s at ≡ Err Size)
  unfolding envelope_at
  envelope_narrow at = then_narrow (number_at s at) (kind_at l s) (kind_at m s) (λ (kind n : ℕ). kind_narrow kind n)
