-- Laws of an unfinished envelope: where it ends inside, how large it can be, and how many bytes it lacks. An answer needs no byte but the envelope's own.
-- Assumes nothing.
use mathlib.Core.Path.{◌≡◌, refl, ap, sym, ◌∙◌}
use mathlib.Core.Bool.{Bool, true, false, cond}
use mathlib.Core.List.{List, [], ◌∷◌, ◌++◌, append-nil}
use Prim.Native.Nat.{ℕ, zero, suc, ◌+◌, ◌-◌, ◌*◌, ◌^◌, ◌≤◌, ◌<◌}
use native.Mathlib.Omega.{arith}
use native.Mathlib.Decide.{dec_lt}
use lib.Dec.{ltb, eqb}
use lib.ListN.{length, take, drop, length-append, length-drop, take-append-drop}
use lib.Seq.{take_at, take-append-le, take-append-add, length-take-le}
use borrow.Author.Tests.{lt-ltb, ltb-true}
use Rattle.envelope.specs.Numbers.{NumberRead, below, number_in, onward, number_at}
use Rattle.words.specs.Readings.{then}
use Rattle.envelope.specs.Envelopes.{is_kind, size_fits, bytes_for, is_padded, body_at, size_at, job_at, kind_at, envelope_at, content_of, bytes_of, header, placed, largest}
use Rattle.envelope.specs.declared.EnvelopeRefusal.{EnvelopeRefusal}
use Rattle.envelope.specs.declared.EnvelopeRefusal.TheVariants.{Cut, Groups, Kind, Size}
use Rattle.envelope.specs.declared.Envelope.{Envelope}
use Rattle.envelope.proofs.Numbers.{AllBytes}
use Rattle.envelope.proofs.Sizes.{number_most, number_mono, number_one, kind_small, bits_small, bytes_mono, within_largest}
use Rattle.envelope.proofs.Longer.{number_stays, envelope_stays}
use Rattle.envelope.proofs.RoundTrip.{ReadIs, number_written, written_read, read_written, length_whole}
use Rattle.envelope.proofs.Strings.{goes_on}
use Rattle.fragments.specs.Mail.{unfinished, may_go_on}
use Rattle.fragments.specs.Missing.{missing_body, missing_size, missing_job, missing}
use Rattle.std.specs.Prelude.{Err, Ok, Result}

never : {A : Type 0} → ◌≡◌ {A = ℕ} 0 1 → A
never z = absurd (omega arith)

-- what a reader needs of the limit: its record takes a header that is refused at its last byte, a count of its bytes goes in two bytes
pub record Sized (limit : ℕ) : Type 0 where
  pub small : limit < 2 ^ 64
  pub least : 21 ≤ largest limit
  pub most : largest limit < 65536

-- ---- a number that ends inside has nine groups at most

below_cut : (c : ℕ) (z : NumberRead) → below c z ≡ Err Cut → z ≡ Err Cut
below_cut c (Ok (x, n)) p = zeroed (eqb x 0) p
  where
    zeroed : (t : Bool) → cond {A = NumberRead} t (Err Groups) (Ok (c + 128 * x, n + 1)) ≡ Err Cut → ◌≡◌ {A = NumberRead} (Ok (x, n)) (Err Cut)
    zeroed true q = never (cc)
    zeroed false q = never (cc)
below_cut c (Err r) p = p

number_in_short : (f : ℕ) (l : List ℕ) → number_in f l ≡ Err Cut → length l ≤ f
unfolding number_in
number_in_short f [] e = omega arith
number_in_short zero (b ∷ bs) e = last (ltb 1 b) e
  where
    last : (t : Bool) → cond {A = NumberRead} t (Err Groups) (Ok (b, 1)) ≡ Err Cut → length (b ∷ bs) ≤ 0
    last true p = never (cc)
    last false p = never (cc)
number_in_short (suc f) (b ∷ bs) e =
    let q = number_in_short f bs (below_cut (b - 128) (number_in f bs) (more_cut (ltb b 128) (number_in f bs) e)) in
    omega arith
  where
    more_cut : (t : Bool) (z : NumberRead) → cond {A = NumberRead} t (Ok (b, 1)) (below (b - 128) z) ≡ Err Cut → below (b - 128) z ≡ Err Cut
    more_cut true z p = never (cc)
    more_cut false z p = p

onward_cut : (at : ℕ) (z : NumberRead) → onward at z ≡ Err Cut → z ≡ Err Cut
onward_cut at (Ok (v, n)) e = never (cc)
onward_cut at (Err r) e = e

number_short : (s : List ℕ) (at : ℕ) → number_at s at ≡ Err Cut → length s ≤ at + 9
unfolding number_at
number_short s at e =
    let h = number_in_short 9 (drop at s) (onward_cut at (number_in 9 (drop at s)) e) in
    omega (arith, length-drop at s)

-- ---- where an envelope ends inside

pub data CutIn (limit : ℕ) (s : List ℕ) : Type 0 where
  in-kind : number_at s 0 ≡ Err Cut → CutIn limit s
  in-job : (kind p : ℕ) → number_at s 0 ≡ Ok (kind, p) → is_kind kind ≡ true → number_at s p ≡ Err Cut → CutIn limit s
  in_size : (kind p job q : ℕ) → number_at s 0 ≡ Ok (kind, p) → is_kind kind ≡ true → number_at s p ≡ Ok (job, q)
      → eqb job 0 ≡ false → number_at s q ≡ Err Cut → CutIn limit s
  in_body : (kind p job q bits t : ℕ) → number_at s 0 ≡ Ok (kind, p) → is_kind kind ≡ true
      → number_at s p ≡ Ok (job, q) → eqb job 0 ≡ false → number_at s q ≡ Ok (bits, t)
      → size_fits limit kind bits ≡ true → length s < t + bytes_for bits → CutIn limit s

via : (z : NumberRead) (k : ℕ → ℕ → Result Envelope EnvelopeRefusal) (A : Type 0) → (z ≡ Err Cut → A)
    → ((v n : ℕ) → z ≡ Ok (v, n) → k v n ≡ Err Cut → A) → then z k ≡ Err Cut → A
via (Ok (v, n)) k A f g e = g v n refl e
via (Err r) k A f g e = f (let o : r ≡ Cut = cc in rw o)

yes_of : (t : Bool) (x : Result Envelope EnvelopeRefusal) (r : EnvelopeRefusal) → (r ≡ Cut → ⊥) → cond t x (Err r) ≡ Err Cut
    → (t ≡ true) × (x ≡ Err Cut)
yes_of true x r h p = (refl, p)
yes_of false x r h p = absurd (h (let o : r ≡ Cut = cc in o))

no_of : (t : Bool) (x : Result Envelope EnvelopeRefusal) (r : EnvelopeRefusal) → (r ≡ Cut → ⊥) → cond t (Err r) x ≡ Err Cut
    → (t ≡ false) × (x ≡ Err Cut)
no_of false x r h p = (refl, p)
no_of true x r h p = absurd (h (let o : r ≡ Cut = cc in o))

body_of : (t u : Bool) (e : Envelope) → cond t (Err Cut) (cond u (Ok e) (Err Size)) ≡ Err Cut → t ≡ true
body_of true u e p = refl
body_of false true e p = never (cc)
body_of false false e p = never (cc)

groups_not : Groups ≡ Cut → ⊥
groups_not p = let z : ◌≡◌ {A = ℕ} 0 1 = cc in omega arith

kind_not : Kind ≡ Cut → ⊥
kind_not p = let z : ◌≡◌ {A = ℕ} 0 1 = cc in omega arith

size_not : Size ≡ Cut → ⊥
size_not p = let z : ◌≡◌ {A = ℕ} 0 1 = cc in omega arith

module _ (limit : ℕ) (s : List ℕ) where
  cut_body : (kind p job q bits t : ℕ) → number_at s 0 ≡ Ok (kind, p) → is_kind kind ≡ true
      → number_at s p ≡ Ok (job, q) → eqb job 0 ≡ false → number_at s q ≡ Ok (bits, t)
      → size_at limit s kind job bits t ≡ Err Cut → CutIn limit s
  unfolding size_at body_at
  cut_body kind p job q bits t n₁ k n₂ j n₃ e =
      let x = yes_of (size_fits limit kind bits) _ Size size_not e in
      in_body kind p job q bits t n₁ k n₂ j n₃ x.0 (ltb-true (length s) (t + bytes_for bits) (body_of (ltb (length s) (t + bytes_for bits)) (is_padded bits (drop t s)) (record { kind = kind; job = job; bits = bits; body = t; next = t + bytes_for bits }) x.1))

  cut_size : (kind p job q : ℕ) → number_at s 0 ≡ Ok (kind, p) → is_kind kind ≡ true → number_at s p ≡ Ok (job, q)
      → job_at limit s kind job q ≡ Err Cut → CutIn limit s
  unfolding job_at
  cut_size kind p job q n₁ k n₂ e =
      let x = no_of (eqb job 0) _ Groups groups_not e in
      via (number_at s q) (size_at limit s kind job) (CutIn limit s)
      (λ (c : number_at s q ≡ Err Cut). in_size kind p job q n₁ k n₂ x.0 c) (λ (bits t : ℕ)
      (n₃ : number_at s q ≡ Ok (bits, t)) (y : size_at limit s kind job bits t ≡ Err Cut). cut_body kind
      p job q bits t n₁ k n₂ x.0 n₃ y) x.1

  cut_job : (kind p : ℕ) → number_at s 0 ≡ Ok (kind, p) → kind_at limit s kind p ≡ Err Cut → CutIn limit s
  unfolding kind_at
  cut_job kind p n₁ e =
      let x = yes_of (is_kind kind) _ Kind kind_not e in
      via (number_at s p) (job_at limit s kind) (CutIn limit s)
      (λ (c : number_at s p ≡ Err Cut). in-job kind p n₁ x.0 c) (λ (job q : ℕ)
      (n₂ : number_at s p ≡ Ok (job, q)) (y : job_at limit s kind job q ≡ Err Cut). cut_size kind p job q
      n₁ x.0 n₂ y) x.1

  pub cut_in : envelope_at limit s 0 ≡ Err Cut → CutIn limit s
  unfolding envelope_at
  cut_in e =
      via (number_at s 0) (kind_at limit s) (CutIn limit s) (λ (c : number_at s 0 ≡ Err Cut). in-kind c) (λ
      (kind p : ℕ) (n₁ : number_at s 0 ≡ Ok (kind, p)) (y : kind_at limit s kind p ≡ Err Cut). cut_job
      kind p n₁ y) e

-- ---- how many bytes it lacks

pub missing_kind : (s : List ℕ) (r : EnvelopeRefusal) → number_at s 0 ≡ Err r → missing s ≡ 1
unfolding missing
missing_kind s r e = rw e

pub missing_job_is : (s : List ℕ) (kind p : ℕ) (r : EnvelopeRefusal) → number_at s 0 ≡ Ok (kind, p)
    → number_at s p ≡ Err r → missing s ≡ 1
unfolding missing missing_job
missing_job_is s kind p r n₁ e = rw (n₁, e)

pub missing_size_is : (s : List ℕ) (kind p job q : ℕ) (r : EnvelopeRefusal) → number_at s 0 ≡ Ok (kind, p)
    → number_at s p ≡ Ok (job, q) → number_at s q ≡ Err r → missing s ≡ 1
unfolding missing missing_job missing_size
missing_size_is s kind p job q r n₁ n₂ e = rw (n₁, n₂, e)

pub missing_body_is : (s : List ℕ) (kind p job q bits t : ℕ) → number_at s 0 ≡ Ok (kind, p)
    → number_at s p ≡ Ok (job, q) → number_at s q ≡ Ok (bits, t) → missing s ≡ t + bytes_for bits - length s
unfolding missing missing_job missing_size missing_body
missing_body_is s kind p job q bits t n₁ n₂ n₃ = rw (n₁, n₂, n₃)

-- the ways out of `lacking`, as the code has them
module _ (s : List ℕ) (x₁ : NumberRead) (e₁ : x₁ ≡ number_at s 0) where
  pub lacks_kind : (r : EnvelopeRefusal) → x₁ ≡ Err r → 1 ≡ missing s
  lacks_kind r q = sym (missing_kind s r (sym e₁ ∙ q))

  module _ (v₁ p : ℕ) (q₁ : x₁ ≡ Ok (v₁, p)) (x₂ : NumberRead) (e₂ : x₂ ≡ number_at s p) where
    pub lacks_job : (r : EnvelopeRefusal) → x₂ ≡ Err r → 1 ≡ missing s
    lacks_job r q = sym (missing_job_is s v₁ p r (sym e₁ ∙ q₁) (sym e₂ ∙ q))

    module _ (v₂ q : ℕ) (q₂ : x₂ ≡ Ok (v₂, q)) (x₃ : NumberRead) (e₃ : x₃ ≡ number_at s q) where
      pub lacks_size : (r : EnvelopeRefusal) → x₃ ≡ Err r → 1 ≡ missing s
      lacks_size r k = sym (missing_size_is s v₁ p v₂ q r (sym e₁ ∙ q₁) (sym e₂ ∙ q₂) (sym e₃ ∙ k))

      pub lacks_body : (bits t n : ℕ) → x₃ ≡ Ok (bits, t) → n ≡ bytes_for bits → missing s ≡ t + n - length s
      lacks_body bits t n k e = missing_body_is s v₁ p v₂ q bits t (sym e₁ ∙ q₁) (sym e₂ ∙ q₂) (sym e₃ ∙ k) ∙ rw e

-- a number ends within the bytes
pub number_within : (s : List ℕ) (at : ℕ) (x : NumberRead) (v n : ℕ) → AllBytes s → x ≡ number_at s at → x ≡ Ok (v, n) → n ≤ length s
number_within s at x v n b e q = (number_written s at v n b (sym e ∙ q)).within

value_live : (v n : ℕ) → ◌≡◌ {A = NumberRead} (Ok (v, n)) (Err Cut) → ⊥
value_live v n q = let o : ◌≡◌ {A = ℕ} 0 1 = cc in omega arith

none_shorter : (t : List ℕ) → length t < 1 → t ≡ []
none_shorter [] h = refl
none_shorter (x ∷ xs) h = absurd (omega arith)

-- with fewer it is still unfinished
module _ (limit : ℕ) (s t : List ℕ) where
  one_less : missing s ≡ 1 → envelope_at limit s 0 ≡ Err Cut → length t < missing s → envelope_at limit (s ++ t) 0 ≡ Err Cut
  one_less e c h = rw (none_shorter t (rw e at h), append-nil s) c

  body_less : (kind p job q bits u : ℕ) → number_at s 0 ≡ Ok (kind, p) → is_kind kind ≡ true
      → number_at s p ≡ Ok (job, q) → eqb job 0 ≡ false → number_at s q ≡ Ok (bits, u)
      → size_fits limit kind bits ≡ true → length s + length t < u + bytes_for bits
      → envelope_at limit (s ++ t) 0 ≡ Err Cut
  unfolding envelope_at kind_at job_at size_at body_at
  body_less kind p job q bits u n₁ k n₂ j n₃ f h =
      let l : length (s ++ t) < u + bytes_for bits = rw (length-append s t) h in
      rw (
        number_stays s t 0 (Ok (kind, p)) n₁ (value_live kind p),
        k,
        number_stays s t p (Ok (job, q)) n₂
            (value_live job q),
        j,
        number_stays s t q (Ok (bits, u)) n₃ (value_live bits u),
        f,
        lt-ltb
            (length (s ++ t)) (u + bytes_for bits) l,
      )

  less_in : CutIn limit s → envelope_at limit s 0 ≡ Err Cut → length t < missing s → envelope_at limit (s ++ t) 0 ≡ Err Cut
  less_in (in-kind e) c h = one_less (missing_kind s Cut e) c h
  less_in (in-job kind p n₁ k e) c h = one_less (missing_job_is s kind p Cut n₁ e) c h
  less_in (in_size kind p job q n₁ k n₂ j e) c h = one_less (missing_size_is s kind p job q Cut n₁ n₂ e) c h
  less_in (in_body kind p job q bits u n₁ k n₂ j n₃ f g) c h = body_less kind p job q bits u n₁ k n₂ j n₃ f
      (omega (arith, missing_body_is s kind p job q bits u n₁ n₂ n₃))

  pub still_cut : envelope_at limit s 0 ≡ Err Cut → length t < missing s → envelope_at limit (s ++ t) 0 ≡ Err Cut
  still_cut c h = less_in (cut_in limit s c) c h

-- it lacks a byte at least, and with what it lacks it fits into the record
pub record Lacks (limit : ℕ) (s : List ℕ) : Type 0 where
  pub some : 0 < missing s
  pub room : length s + missing s ≤ largest limit

module _ (limit : ℕ) (z : Sized limit) (s : List ℕ) (b : AllBytes s) where
  lacks_in : CutIn limit s → Lacks limit s
  unfolding largest
  lacks_in (in-kind e) =
      let m = missing_kind s Cut e in
      record { some = omega arith; room = omega (arith, number_short s 0 e, z.least) }
  lacks_in (in-job kind p n₁ k e) =
      let m = missing_job_is s kind p Cut n₁ e in
      let w = number_written s 0 kind p b n₁ in
      let o = number_one kind (omega (arith, kind_small kind k)) in
      record { some = omega arith; room = omega (arith, number_short s p e, z.least, w.place) }
  lacks_in (in_size kind p job q n₁ k n₂ j e) =
      let m = missing_size_is s kind p job q Cut n₁ n₂ e in
      let w = number_written s 0 kind p b n₁ in
      let v = number_written s p job q b n₂ in
      let o = number_one kind (omega (arith, kind_small kind k)) in
      record { some = omega arith; room = omega (arith, number_short s q e, z.least, w.place, v.place, number_most job) }
  lacks_in (in_body kind p job q bits t n₁ k n₂ j n₃ f g) =
      let m = missing_body_is s kind p job q bits t n₁ n₂ n₃ in
      let w = number_written s 0 kind p b n₁ in
      let v = number_written s p job q b n₂ in
      let u = number_written s q bits t b n₃ in
      let o = number_one kind (omega (arith, kind_small kind k)) in
      let l = bits_small limit kind bits f in
      record { some = omega arith; room = omega (arith, w.place, v.place, u.place, number_most job, number_mono bits limit l, bytes_mono bits limit l) }

  pub lacks : envelope_at limit s 0 ≡ Err Cut → Lacks limit s
  lacks c = lacks_in (cut_in limit s c)

-- ---- an envelope needs its own bytes only

module _ (limit : ℕ) (z : Sized limit) (s : List ℕ) (b : AllBytes s) (e : Envelope) (p : envelope_at limit s 0 ≡ Ok e) where
  own : ReadIs limit s 0 e
  own = read_written limit s 0 b e p

  pub next_within : e.next ≤ length s
  next_within = own.within

  next_is : e.next ≡ length (bytes_of (content_of s e))
  next_is = (goes_on limit s 0 e own).next ∙ omega arith

  pub next_largest : e.next ≤ largest limit
  next_largest = omega (arith, next_is, within_largest limit (content_of s e) own.fit)

  pub body_next : e.next ≡ e.body + bytes_for e.bits
  unfolding placed
  body_next =
      let x : e.body ≡ 0 + length (header (content_of s e)) = ap (λ (y : Envelope). y.body) own.place in
      omega (arith, next_is, length_whole (content_of s e), own.fit.body)

  bytes_are : take e.next s ≡ bytes_of (content_of s e)
  bytes_are = ap (take e.next) own.holds ∙ (take_at (bytes_of (content_of s e)) (drop e.next s) e.next (sym next_is))

  pub reads_own : envelope_at limit (take e.next s) 0 ≡ Ok e
  reads_own = rw bytes_are (written_read limit z.small (content_of s e) own.fit (bytes_of (content_of s e)) 0 []
      (sym (append-nil (bytes_of (content_of s e)))) ∙ ap Ok (sym own.place))

is_live : (e : Envelope) → Ok e ≡ Err Cut → ⊥
is_live e q = let o : ◌≡◌ {A = ℕ} 0 1 = cc in omega arith

-- behind what was unfinished an envelope takes a byte at least
module _ (limit : ℕ) (z : Sized limit) (h t : List ℕ) (b : AllBytes (h ++ t)) (e : Envelope) (c : envelope_at limit h 0 ≡ Err Cut) (p : envelope_at limit (h ++ t) 0 ≡ Ok e) where
  pub takes_some : length h < e.next
  takes_some = elim (dec_lt (length h) e.next) [ yes g ↦ g | no g ↦ absurd (inside (omega arith)) ]
    where
      inside : e.next ≤ length h → ⊥
      inside g =
          let o : envelope_at limit (take e.next h) 0 ≡ Ok e = rw (take-append-le e.next h t g) at
          (reads_own limit z (h ++ t) b e p) in
          let y : envelope_at limit (take e.next h ++ drop e.next h) 0 ≡ Ok e = envelope_stays (take e.next h)
          (drop e.next h) (Ok e) (is_live e) limit 0 o in
          is_live e (sym (rw (take-append-drop e.next h) at y) ∙ c)

  -- and with no byte more than it lacked, all of them
  pub takes_all : length t ≤ missing h → e.next ≡ length (h ++ t)
  takes_all g =
      let w = next_within limit z (h ++ t) b e p in
      elim (dec_lt e.next (length (h ++ t))) [ yes k ↦ absurd (short k) | no k ↦ omega arith ]
    where
      short : e.next < length (h ++ t) → ⊥
      short k =
          let q = takes_some in
          let a = length-append h t in
          let n : e.next ≡ length h + (e.next - length h) = omega arith in
          let u : take e.next (h ++ t) ≡ h ++ take (e.next - length h) t = ap (λ (j : ℕ). take j (h ++ t)) n ∙
          take-append-add h t (e.next - length h) in
          let l = length-take-le (e.next - length h) t (omega arith) in
          let o : envelope_at limit (h ++ take (e.next - length h) t) 0 ≡ Ok e = rw u at (reads_own limit z (h ++ t) b e p) in
          is_live e (sym o ∙ still_cut limit h (take (e.next - length h) t) c (omega arith))

-- ---- what the test of the code says

pub cut_of : (limit : ℕ) (h : List ℕ) → unfinished limit h ≡ true → envelope_at limit h 0 ≡ Err Cut
unfolding unfinished
cut_of limit h e = go (envelope_at limit h 0) e
  where
    go : (x : Result Envelope EnvelopeRefusal) → may_go_on x ≡ true → x ≡ Err Cut
    go (Ok x) q = never (cc)
    go (Err Cut) q = refl
    go (Err Groups) q = never (cc)
    go (Err Kind) q = never (cc)
    go (Err Size) q = never (cc)

pub is_open : (limit : ℕ) (h : List ℕ) → envelope_at limit h 0 ≡ Err Cut → unfinished limit h ≡ true
unfolding unfinished
is_open limit h e = rw e

-- no byte is the beginning of an envelope
pub none_open : (limit : ℕ) → envelope_at limit [] 0 ≡ Err Cut
unfolding envelope_at number_at number_in
none_open limit = refl
