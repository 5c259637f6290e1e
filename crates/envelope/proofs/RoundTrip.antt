-- An envelope that is written is read back, and one that is read is written as the same bytes.
-- Assumes nothing.
use mathlib.Core.Path.{◌≡◌, refl, ap, sym, ◌∙◌, subst}
use mathlib.Core.Bool.{Bool, true, false, cond}
use mathlib.Core.List.{List, ◌++◌, append_assoc}
use Prim.Native.Nat.{ℕ, ◌+◌, ◌-◌, ◌^◌, ◌≤◌, ◌<◌}
use native.Mathlib.Omega.{arith}
use lib.Dec.{ltb, eqb}
use lib.ListN.{length, take, drop, length-append, length-drop, take-append-drop}
use lib.Seq.{drop-drop, drop-append_seam, length-take-le, get_or-drop}
use borrow.Author.Tests.{le-ltb, ltb-false}
use Rattle.words.proofs.Laws.{ok_value, ok_place}
use Rattle.envelope.specs.Numbers.{NumberRead, groups, number, number_in, onward, number_at}
use Rattle.words.specs.Readings.{then}
use Rattle.envelope.specs.Envelopes.{is_kind, size_fits, bytes_for, is_padded, body_at, size_at, job_at, kind_at, envelope_at, Content, content, content_of, bytes_of, header, placed, Fit}
use Rattle.envelope.specs.declared.EnvelopeRefusal.{EnvelopeRefusal}
use Rattle.envelope.specs.declared.EnvelopeRefusal.TheVariants.{Cut, Groups, Kind, Size}
use Rattle.envelope.specs.declared.Envelope.{Envelope}
use Rattle.envelope.proofs.Numbers.{AllBytes, groups_read, groups_written}
use Rattle.envelope.proofs.Puts.{groups_pos}
use Rattle.envelope.proofs.Sizes.{kind_small, bits_small, padded_front, padded_taken}
use Rattle.std.specs.Prelude.{Err, Ok, Result}

-- ---- a number at a position of bytes

-- the bytes of v stand at a position, and t follows them at next
pub record NumberAt (s : List ℕ) (at v next : ℕ) (t : List ℕ) : Type 0 where
  pub value : number_at s at ≡ Ok (v, next)
  pub small : v < 2 ^ 64
  pub place : next ≡ at + length (number v)
  pub within : next ≤ length s
  pub holds : drop at s ≡ number v ++ t
  pub follows : drop next s ≡ t

-- what a written number leaves to read
pub number_read : (s : List ℕ) (at v : ℕ) (t : List ℕ) → v < 2 ^ 64 → drop at s ≡ number v ++ t → NumberAt s at v (at + length (number v)) t
unfolding number_at number
number_read s at v t h e =
    let l : length s - at ≡ length (groups 9 v) + length t = sym (length-drop at s) ∙ (ap length e ∙ length-append (groups 9 v) t) in
    let p = groups_pos 9 v in
    record {
      value = rw (e, groups_read 9 v t h);
      small = h;
      place = refl;
      within = omega arith;
      holds = e;
      follows = sym (drop-drop (length (groups 9 v)) at s) ∙ rw (e, drop-append_seam (groups 9 v) t);
    }

-- what a number that was read says
from_position : (z : NumberRead) (at v next : ℕ) (A : Type 0) → onward at z ≡ Ok (v, next)
    → ((n : ℕ) → z ≡ Ok (v, n) → next ≡ at + n → A) → A
from_position (Ok (x, n)) at v next A e k =
    let p : x ≡ v = ok_value e in
    let q : next ≡ at + n = sym (ok_place e) in
    k n (rw p) q
from_position (Err r) at v next A e k = let z : ◌≡◌ {A = ℕ} 0 1 = cc in absurd (omega arith)

bytes_after : (s : List ℕ) (at : ℕ) → AllBytes s → AllBytes (drop at s)
bytes_after s at b k = rw (get_or-drop at s k 0) (b (at + k))

number_is : (s : List ℕ) (at v n next : ℕ) → AllBytes s → number_in 9 (drop at s) ≡ Ok (v, n) → next ≡ at + n
    → NumberAt s at v next (drop next s)
unfolding number
number_is s at v n next b p q =
    let r = groups_written 9 (drop at s) v n (bytes_after s at b) p in
    let m : next ≡ at + length (groups 9 v) = q ∙ ap (λ (k : ℕ). at + k) r.place in
    let h : drop at s ≡ groups 9 v ++ drop (at + length (groups 9 v)) s = r.holds ∙ rw (drop-drop n at s, r.place) in
    rw m (number_read s at v (drop (at + length (groups 9 v)) s) r.small h)

pub number_written : (s : List ℕ) (at v next : ℕ) → AllBytes s → number_at s at ≡ Ok (v, next) → NumberAt s at v next (drop next s)
unfolding number_at
number_written s at v next b e =
    from_position (number_in 9 (drop at s)) at v next (NumberAt s at v next (drop next s)) e
    (λ (n : ℕ) (p : number_in 9 (drop at s) ≡ Ok (v, n)) (q : next ≡ at + n). number_is s at v n next b p q)

-- ---- an envelope's bytes

grouped : (c : Content) (t : List ℕ) → bytes_of c ++ t ≡ number c.kind ++ (number c.job ++ (number c.bits ++ (c.body ++ t)))
unfolding bytes_of
grouped c t = simp append_assoc

pub length_header : (c : Content) → length (header c) ≡ length (number c.kind) + length (number c.job) + length (number c.bits)
unfolding header
length_header c = simp length-append (omega arith)

pub length_whole : (c : Content) → length (bytes_of c) ≡ length (header c) + length c.body
unfolding header bytes_of
length_whole c = simp length-append (omega arith)

-- ---- what is written is read back, and the next position is its end

pub written_read : (limit : ℕ) → limit < 2 ^ 64 → (c : Content) → Fit limit c → (s : List ℕ) (at : ℕ) (t : List ℕ)
    → drop at s ≡ bytes_of c ++ t → envelope_at limit s at ≡ Ok (placed at c)
unfolding envelope_at kind_at job_at size_at body_at placed
written_read limit w c f s at t e =
    let k = kind_small c.kind f.kind in
    let b = bits_small limit c.kind c.bits f.size in
    let n₁ = number_read s at c.kind _ (omega arith) (e ∙ grouped c t) in
    let n₂ = number_read s (at + length (number c.kind)) c.job _ f.within n₁.follows in
    let n₃ = number_read s (at + length (number c.kind) + length (number c.job)) c.bits (c.body ++ t)
    (omega arith) n₂.follows in
    let p : at + length (number c.kind) + length (number c.job) + length (number c.bits) ≡ at + length
    (header c) = omega (arith, length_header c) in
    let d : drop (at + length (header c)) s ≡ c.body ++ t = rw p at n₃.follows in
    let m : at + length (header c) + bytes_for c.bits ≡ at + length (bytes_of c) = omega (arith, length_whole c, f.body) in
    let l : length s - (at + length (header c)) ≡ length c.body + length t = sym
    (length-drop (at + length (header c)) s) ∙ (ap length d ∙ length-append c.body t) in
    let g : at + length (bytes_of c) ≤ length s = omega (arith, n₃.within, f.body) in
    let o : is_padded c.bits (c.body ++ t) ≡ true = padded_front c.bits c.body t (omega (arith, f.body)) ∙ f.padded in
    rw (n₁.value, f.kind, n₂.value, f.job, n₃.value, f.size, p, m, le-ltb (length s) (at + length (bytes_of c)) g, d, o)

-- ---- what is read is written as the same bytes

pub record ReadIs (limit : ℕ) (s : List ℕ) (at : ℕ) (e : Envelope) : Type 0 where
  pub fit : Fit limit (content_of s e)
  pub place : e ≡ placed at (content_of s e)
  pub within : e.next ≤ length s
  pub holds : drop at s ≡ bytes_of (content_of s e) ++ drop e.next s

-- an answer that is an envelope was not a refusal on the way
yes_of : (t : Bool) (x : Result Envelope EnvelopeRefusal) (r : EnvelopeRefusal) (e : Envelope) → cond t x (Err r) ≡ Ok e → (t ≡ true) × (x ≡ Ok e)
yes_of true x r e p = (refl, p)
yes_of false x r e p = let z : ◌≡◌ {A = ℕ} 0 1 = cc in absurd (omega arith)

no_of : (t : Bool) (x : Result Envelope EnvelopeRefusal) (r : EnvelopeRefusal) (e : Envelope) → cond t (Err r) x ≡ Ok e → (t ≡ false) × (x ≡ Ok e)
no_of false x r e p = (refl, p)
no_of true x r e p = let z : ◌≡◌ {A = ℕ} 0 1 = cc in absurd (omega arith)

via : (z : NumberRead) (k : ℕ → ℕ → Result Envelope EnvelopeRefusal) (e : Envelope) (A : Type 0)
    → ((v n : ℕ) → z ≡ Ok (v, n) → k v n ≡ Ok e → A) → then z k ≡ Ok e → A
via (Ok (v, n)) k e A f p = f v n refl p
via (Err r) k e A f p = let z : ◌≡◌ {A = ℕ} 0 1 = cc in absurd (omega arith)

same_place : (kind job bits : ℕ) {a b m n : ℕ} → a ≡ b → m ≡ n → ◌≡◌ {A = Envelope} (record { kind = kind; job = job; bits = bits; body = a; next = m }) (record { kind = kind; job = job; bits = bits; body = b; next = n })
same_place kind job bits p q = rw (p, q)

module _ (limit : ℕ) (s : List ℕ) (at : ℕ) (b : AllBytes s) where
  -- from the body on, with the fields before it
  read_body : (kind job bits p q t : ℕ) → NumberAt s at kind p (drop p s) → NumberAt s p job q (drop q s) → NumberAt s q bits t (drop t s) → is_kind kind ≡ true → eqb job 0 ≡ false → size_fits limit kind bits ≡ true → t + bytes_for bits ≤ length s → is_padded bits (drop t s) ≡ true → ReadIs limit s at (record { kind = kind; job = job; bits = bits; body = t; next = t + bytes_for bits })
  unfolding placed
  read_body kind job bits p q t n₁ n₂ n₃ fk fj fs h fp =
      let l : bytes_for bits ≤ length (drop t s) = rw (length-drop t s) (omega arith) in
      let m = length-take-le (bytes_for bits) (drop t s) l in
      let r : drop t s ≡ take (bytes_for bits) (drop t s) ++ drop (t + bytes_for bits) s = sym
      (take-append-drop (bytes_for bits) (drop t s)) ∙ rw (drop-drop (bytes_for bits) t s) in
      let d : drop at s ≡ number kind ++ (number job ++ (number bits ++ drop t s)) = n₁.holds ∙ rw (n₂.holds, n₃.holds) in
      let u : t ≡ at + length (header (content kind job bits (drop t s))) = omega
      (arith, length_header (content kind job bits (drop t s)), n₁.place, n₂.place, n₃.place) in
      let v : t + bytes_for bits ≡ at + length (bytes_of (content kind job bits (drop t s))) = omega
      (arith, length_whole (content kind job bits (drop t s))) in
      record {
        fit = record { kind = fk; job = fj; within = n₂.small; size = fs; body = m; padded = padded_taken bits (drop t s) l ∙ fp };
        place = same_place kind job bits u v;
        within = h;
        holds = d ∙ (ap (λ (l : List ℕ). number kind ++ (number job ++ (number bits ++ l))) r ∙ sym
            (grouped (content kind job bits (drop t s)) (drop (t + bytes_for bits) s)));
      }

  from_body : (e : Envelope) (kind job bits p q t : ℕ) → number_at s at ≡ Ok (kind, p)
      → number_at s p ≡ Ok (job, q) → number_at s q ≡ Ok (bits, t) → is_kind kind ≡ true → eqb job 0 ≡ false
      → size_fits limit kind bits ≡ true → body_at s kind job bits t ≡ Ok e → ReadIs limit s at e
  unfolding body_at
  from_body e kind job bits p q t n₁ n₂ n₃ fk fj fs h =
      let x = no_of (ltb (length s) (t + bytes_for bits)) _ Cut e h in
      let y = yes_of (is_padded bits (drop t s)) _ Size e x.1 in
      let r = read_body kind job bits p q t (number_written s at kind p b n₁) (number_written s p job q b n₂)
      (number_written s q bits t b n₃) fk fj fs (ltb-false (length s) (t + bytes_for bits) x.0) y.0 in
      let z : record { kind = kind; job = job; bits = bits; body = t; next = t + bytes_for bits } ≡ e = cc y.1 in
      subst (λ (w : Envelope). ReadIs limit s at w) z r

  from_size : (e : Envelope) (kind job bits p q t : ℕ) → number_at s at ≡ Ok (kind, p)
      → number_at s p ≡ Ok (job, q) → number_at s q ≡ Ok (bits, t) → is_kind kind ≡ true → eqb job 0 ≡ false
      → size_at limit s kind job bits t ≡ Ok e → ReadIs limit s at e
  unfolding size_at
  from_size e kind job bits p q t n₁ n₂ n₃ fk fj h =
      let x = yes_of (size_fits limit kind bits) _ Size e h in
      from_body e kind job bits p q t n₁ n₂ n₃ fk fj x.0 x.1

  from_job : (e : Envelope) (kind job p q : ℕ) → number_at s at ≡ Ok (kind, p) → number_at s p ≡ Ok (job, q)
      → is_kind kind ≡ true → job_at limit s kind job q ≡ Ok e → ReadIs limit s at e
  unfolding job_at
  from_job e kind job p q n₁ n₂ fk h =
      let x = no_of (eqb job 0) _ Groups e h in
      via (number_at s q) (size_at limit s kind job) e (ReadIs limit s at e) (λ (bits t : ℕ)
      (n₃ : number_at s q ≡ Ok (bits, t)) (k : size_at limit s kind job bits t ≡ Ok e). from_size e kind job
      bits p q t n₁ n₂ n₃ fk x.0 k) x.1

  from_kind : (e : Envelope) (kind p : ℕ) → number_at s at ≡ Ok (kind, p) → kind_at limit s kind p ≡ Ok e → ReadIs limit s at e
  unfolding kind_at
  from_kind e kind p n₁ h =
      let x = yes_of (is_kind kind) _ Kind e h in
      via (number_at s p) (job_at limit s kind) e (ReadIs limit s at e) (λ (job q : ℕ)
      (n₂ : number_at s p ≡ Ok (job, q)) (k : job_at limit s kind job q ≡ Ok e). from_job e kind job p q n₁
      n₂ x.0 k) x.1

  pub read_written : (e : Envelope) → envelope_at limit s at ≡ Ok e → ReadIs limit s at e
  unfolding envelope_at
  read_written e h =
      via (number_at s at) (kind_at limit s) e (ReadIs limit s at e) (λ (kind p : ℕ)
      (n₁ : number_at s at ≡ Ok (kind, p)) (k : kind_at limit s kind p ≡ Ok e). from_kind e kind p n₁ k) h
