-- 12 for a CHOICE and an ENUMERATED, for an addition count in its long form, and for an extension bit of 1 with no addition marked present, and for nothing else
-- (document 02, E6).
-- Assumes nothing.
use mathlib.Core.Path.{◌≡◌, refl, ap, sym, subst, ◌∙◌}
use mathlib.Core.Bool.{Bool, true, false, cond}
use mathlib.Core.List.{List}
use Prim.Native.Nat.{ℕ, ◌+◌, ◌-◌, ◌%◌}
use borrow.Author.Tests.{eqb-true}
use lib.Count.{ones}
use lib.Dec.{leb, eqb}
use lib.ListN.{length}
use Rattle.fields.specs.Additions.{addition_count, additions_there, stepped_over, additions_at}
use Rattle.fields.specs.Fields.{refusal, refused_at, then, bit_field, extension_bit, width_of, whole_number, extensible_index}
use Rattle.fields.specs.declared.Refusal.{Refusal}
use Rattle.fields.specs.declared.Fault.{Fault}
use Rattle.fields.specs.declared.Fault.TheVariants.{Short, Range, Extension, LengthForm, Limit, Tail, Default}
use Rattle.apdu.specs.Sizes.{user_last, provider_last}
use Rattle.apdu.specs.Headings.{response_last}
use Rattle.apdu.specs.Pdus.{last_of, kind_of}
use Rattle.apdu.specs.Encoding.{padding}
use Rattle.apdu.specs.Reading.{parts_at, with_additions, data_within, data_at, forward_at, kind_mode, leading_at, tail_at, ended_at, rest_within, rest_at, apdu_within, apdu_at}
use Rattle.pdus.specs.declared.PduType.{PduType}
use Rattle.apdu.specs.declared.Kind.{Kind}
use Rattle.apdu.specs.declared.Kind.TheVariants as kind
use Rattle.apdu.specs.declared.Data.{Data}
use Rattle.apdu.specs.declared.Forward.{Forward}
use Rattle.apdu.specs.declared.Apdu.{Apdu}
use Rattle.apdu.specs.declared.Apdu.TheVariants as apdu
use Rattle.apdu.proofs.Bounds.{never}
use Rattle.places.specs.Readings.{holds_data, is_enumerated, Marked, Twelve, of_choice, of_enumerated, of_count, of_none}
use Rattle.apdu.proofs.Spared.{Not, Spared, spared_value, spared_fault, spared_then, spared_cond, bits_spared, whole_spared, kind_mode_spared, parts_spared, forward_spared, stepped_spared}
use Rattle.std.specs.Prelude.{Err, Ok, Result}
use Rattle.fields.specs.Fields.{Reading}

-- no other fault is Extension
twelve_not : (r : Refusal) → r.fault ≡ Extension → Not r
twelve_not r x =
    record {
      short = λ (e : Short ≡ r.fault). never (cc);
      range = λ (e : Range ≡ r.fault). never (cc);
      form = λ (e : LengthForm ≡ r.fault). never (cc);
      limit = λ (e : Limit ≡ r.fault). never (cc);
      default = λ (e : Default ≡ r.fault). never (cc);
    }

answer_one : {A : Type 0} (r q : Refusal) → ◌≡◌ {A = Result A Refusal} (Err q) (Err r) → q ≡ r
answer_one r q e = cc

module _ (pdus : PduType) (l : List ℕ) (r : Refusal) (x : r.fault ≡ Extension) where
  not_twelve : Not r
  not_twelve = twelve_not r x

  tail_not : (f : Fault) → f ≡ Tail → f ≡ r.fault → ⊥
  tail_not f p e = never (cc)

  -- an index: its extension bit
  index_twelve : (at last : ℕ) → extensible_index l at last ≡ Err r → extension_bit l at ≡ Err r
  unfolding extensible_index
  index_twelve at last e = go (extension_bit l at) refl e
    where
      go : (f : Reading ℕ) → extension_bit l at ≡ f → then f (λ (b next : ℕ). whole_number l next 0 last) ≡ Err r
          → extension_bit l at ≡ Err r
      go (Err q) p k = p ∙ k
      go (Ok (b, n)) p k = absurd (whole_spared r not_twelve l n 0 last k)

  -- the tail has no extension bit
  tail_twelve : (at : ℕ) → tail_at l at ≡ Err r → ⊥
  unfolding tail_at
  tail_twelve at =
      spared_then r not_twelve (bit_field l at (padding at)) _ (bits_spared r not_twelve l at (padding at)) (λ (v next : ℕ).
      spared_cond r not_twelve (eqb v 0) _ _
      (spared_cond r not_twelve (leb (next + 1) (length l)) (refused_at next Tail) (Ok (0, next))
      (spared_fault r not_twelve Tail next (tail_not Tail refl)) (spared_value r not_twelve 0 next))
      (spared_fault r not_twelve Tail (next - width_of v) (tail_not Tail refl)))

  ended_twelve : (at : ℕ) (a : Apdu) → ended_at l at a ≡ Err r → ⊥
  unfolding ended_at
  ended_twelve at a e = go (tail_at l at) refl e
    where
      go : (f : Reading ℕ) → tail_at l at ≡ f → then f (λ (v n : ℕ). Ok a) ≡ Err r → ⊥
      go (Ok (v, n)) p k = never (cc)
      go (Err q) p k = tail_twelve at (p ∙ ap Err (answer_one r q k))

  -- ---- additions

  none_twelve : (at n : ℕ) (p : ℕ) → Marked pdus l at → addition_count l at ≡ Ok (n, p) → additions_there l p n ≡ Err r → Twelve pdus l r
  unfolding additions_there
  none_twelve at n p o c e = go (bit_field l p n) refl e
    where
      by : (v k : ℕ) → bit_field l p n ≡ Ok (v, k) → (t : Bool) → eqb v 0 ≡ t
          → cond {A = Reading ℕ} t (refused_at p Extension) (Ok (v, k)) ≡ Err r → Twelve pdus l r
      by v k f true q u =
          let z : v ≡ 0 = eqb-true v 0 q in
          let w : refusal p Extension ≡ r = cc in
          of_none at n p k o c (f ∙ ap (λ (y : ℕ). Ok (y, k)) z) (sym w)
      by v k f false q u = never (cc)

      go : (f : Reading ℕ) → bit_field l p n ≡ f
          → then {A = ℕ} {B = ℕ × ℕ} f (λ (v next : ℕ). cond (eqb v 0) (refused_at p Extension) (Ok (v, next))) ≡ Err r
          → Twelve pdus l r
      go (Err q) f k = absurd (bits_spared r not_twelve l p n (f ∙ k))
      go (Ok (v, k)) f u = by v k f (eqb v 0) refl u

  count_twelve : (at : ℕ) → Marked pdus l at → addition_count l at ≡ Err r → Twelve pdus l r
  unfolding addition_count
  count_twelve at o e = go (extension_bit l at) refl e
    where
      seven : (f : Reading ℕ) → bit_field l at 7 ≡ f → then {A = ℕ} {B = ℕ × ℕ} f (λ (v next : ℕ). Ok (v + 1, next)) ≡ Err r → Twelve pdus l r
      seven (Err q) f k = absurd (bits_spared r not_twelve l at 7 (f ∙ k))
      seven (Ok (v, n)) f k = never (cc)

      go : (f : Reading ℕ) → extension_bit l at ≡ f
          → then {A = ℕ} {B = ℕ × ℕ} f (λ (b p : ℕ). then (bit_field l at 7) (λ (v next : ℕ). Ok (v + 1, next))) ≡ Err r
          → Twelve pdus l r
      go (Err q) f k = of_count at o (f ∙ k)
      go (Ok (b, n)) f k = seven (bit_field l at 7) refl k

  additions_twelve : (at : ℕ) → Marked pdus l at → additions_at l at ≡ Err r → Twelve pdus l r
  unfolding additions_at
  additions_twelve at o e = go (addition_count l at) refl e
    where
      second : (n p : ℕ) → addition_count l at ≡ Ok (n, p) → (f : Reading ℕ) → additions_there l p n ≡ f
          → then f (λ (v q : ℕ). stepped_over l q (ones v)) ≡ Err r → Twelve pdus l r
      second n p c (Err q) f k = none_twelve at n p o c (f ∙ k)
      second n p c (Ok (v, q)) f k = absurd (stepped_spared r not_twelve l (ones v) q k)

      go : (f : Reading ℕ) → addition_count l at ≡ f
          → then f (λ (n p : ℕ). then (additions_there l p n) (λ (v q : ℕ). stepped_over l q (ones v))) ≡ Err r
          → Twelve pdus l r
      go (Err q) f k = count_twelve at o (f ∙ k)
      go (Ok (n, p)) f k = second n p f (additions_there l p n) refl k

  -- ---- message data

  module _ (c : Kind) (m at : ℕ) (led : leading_at pdus l 0 ≡ Ok ((c, m), at)) (y : holds_data c ≡ true) where
    root_twelve : (e p v q : ℕ) → bit_field l at 1 ≡ Ok (e, p) → bit_field l p 2 ≡ Ok (v, q) → eqb e 0 ≡ false
        → (t : Reading Data) → parts_at l q (leb 2 v) (eqb (v % 2) 1) ≡ t → with_additions l t ≡ Err r
        → Twelve pdus l r
    unfolding with_additions
    root_twelve e p v q f u z (Err x₂) g k = absurd (parts_spared r not_twelve l q (leb 2 v) (eqb (v % 2) 1) (g ∙ k))
    root_twelve e p v q f u z (Ok (d, n)) g k = go (additions_at l n) refl k
      where
        o : Marked pdus l n
        o = record { kind = c; mode = m; begin = at; led = led; holds = y; mark = e; after = p; extension = f; set = z; flags = v; from = q; presence = u; parts = d; root = g }

        go : (y : Reading ℕ) → additions_at l n ≡ y
            → then {A = ℕ} {B = Data × ℕ} y (λ (v after : ℕ). Ok (d, after)) ≡ Err r → Twelve pdus l r
        go (Err x₂) h w = additions_twelve n o (h ∙ ap Err (answer_one r x₂ w))
        go (Ok (x₃, k₂)) h w = never (cc)

    data_twelve : data_at l at ≡ Err r → Twelve pdus l r
    unfolding data_within
    data_twelve e = first (bit_field l at 1) refl e
      where
        third : (x₁ p v q : ℕ) → bit_field l at 1 ≡ Ok (x₁, p) → bit_field l p 2 ≡ Ok (v, q) → (t : Bool) → eqb x₁ 0 ≡ t
            → cond t (parts_at l q (leb 2 v) (eqb (v % 2) 1)) (with_additions l (parts_at l q (leb 2 v) (eqb (v % 2) 1))) ≡
            Err r → Twelve pdus l r
        third x₁ p v q f g true z k = absurd (parts_spared r not_twelve l q (leb 2 v) (eqb (v % 2) 1) k)
        third x₁ p v q f g false z k = root_twelve x₁ p v q f g z (parts_at l q (leb 2 v) (eqb (v % 2) 1)) refl k

        second : (x₁ p : ℕ) → bit_field l at 1 ≡ Ok (x₁, p) → (g : Reading ℕ) → bit_field l p 2 ≡ g
            → then g (λ (v q : ℕ). cond (eqb x₁ 0) (parts_at l q (leb 2 v) (eqb (v % 2) 1))
            (with_additions l (parts_at l q (leb 2 v) (eqb (v % 2) 1)))) ≡ Err r → Twelve pdus l r
        second x₁ p f (Err x₂) g k = absurd (bits_spared r not_twelve l p 2 (g ∙ ap Err (answer_one r x₂ k)))
        second x₁ p f (Ok (v, q)) g k = third x₁ p v q f g (eqb x₁ 0) refl k

        first : (f : Reading ℕ) → bit_field l at 1 ≡ f
            → then f (λ (x₁ p : ℕ). then (bit_field l p 2) (λ (v q : ℕ). cond (eqb x₁ 0)
            (parts_at l q (leb 2 v) (eqb (v % 2) 1))
            (with_additions l (parts_at l q (leb 2 v) (eqb (v % 2) 1))))) ≡ Err r
            → Twelve pdus l r
        first (Err x₂) f k = absurd (bits_spared r not_twelve l at 1 (f ∙ ap Err (answer_one r x₂ k)))
        first (Ok (x₁, p)) f k = second x₁ p f (bit_field l p 2) refl k

    on_data_is : (k : Data → ℕ → Apdu) (t : Reading Data) → data_at l at ≡ t
        → then t (λ (d : Data) (next : ℕ). ended_at l next (k d next)) ≡ Err r → Twelve pdus l r
    on_data_is k (Err q) f e = data_twelve (f ∙ ap Err (answer_one r q e))
    on_data_is k (Ok (d, n)) f e = absurd (ended_twelve n (k d n) e)

  on_reason : (c : Kind) (m at : ℕ) → leading_at pdus l 0 ≡ Ok ((c, m), at) → is_enumerated c ≡ true
      → (last : ℕ) (k : ℕ → Apdu) (f : Reading ℕ) → extensible_index l at last ≡ f
      → then f (λ (v next : ℕ). ended_at l next (k v)) ≡ Err r → Twelve pdus l r
  on_reason c m at led y last k (Err q) f e = of_enumerated c m at y led (index_twelve at last (f ∙ ap Err (answer_one r q e)))
  on_reason c m at led y last k (Ok (v, n)) f e = absurd (ended_twelve n (k v) e)

  -- a forward message has no extension bit
  on_forward_is : (at : ℕ) (t : Reading Forward) → forward_at l at ≡ t
      → then t (λ (f : Forward) (next : ℕ). ended_at l next (apdu.Forward f)) ≡ Err r
      → Twelve pdus l r
  on_forward_is at (Err q) g e = absurd (forward_spared r not_twelve l at (g ∙ ap Err (answer_one r q e)))
  on_forward_is at (Ok (f, n)) g e = absurd (ended_twelve n (apdu.Forward f) e)

  rest_twelve : (c : Kind) (m at : ℕ) → leading_at pdus l 0 ≡ Ok ((c, m), at) → rest_at l c m at ≡ Err r → Twelve pdus l r
  unfolding rest_within
  rest_twelve kind.AbortUser m at g e = on_reason kind.AbortUser m at g refl user_last apdu.AbortUser (extensible_index l at user_last) refl e
  rest_twelve kind.AbortProvider m at g e = on_reason kind.AbortProvider m at g refl provider_last apdu.AbortProvider
      (extensible_index l at provider_last) refl e
  rest_twelve kind.Start m at g e = on_data_is kind.Start m at g refl (λ (d : Data) (next : ℕ). apdu.Start m d) (data_at l at) refl e
  rest_twelve kind.Send m at g e = on_data_is kind.Send m at g refl (λ (d : Data) (next : ℕ). apdu.Send d) (data_at l at) refl e
  rest_twelve kind.Forward m at g e = on_forward_is at (forward_at l at) refl e
  rest_twelve kind.ForwardResponse m at g e = on_reason kind.ForwardResponse m at g refl response_last
      apdu.ForwardResponse (extensible_index l at response_last) refl e

  -- ---- the leading fields

  lead_twelve : leading_at pdus l 0 ≡ Err r → Twelve pdus l r
  unfolding leading_at
  lead_twelve e = go (extensible_index l 0 (last_of pdus)) refl e
    where
      second : (i p : ℕ) (f : Reading ℕ) → kind_mode pdus l (kind_of i) p ≡ f
          → then {A = ℕ} {B = (Kind × ℕ) × ℕ} f (λ (m q : ℕ). Ok ((kind_of i, m), q)) ≡ Err r → Twelve pdus l r
      second i p (Err q) f k = absurd (kind_mode_spared r not_twelve pdus l (kind_of i) p (f ∙ ap Err (answer_one r q k)))
      second i p (Ok (v, q)) f k = never (cc)

      go : (f : Reading ℕ) → extensible_index l 0 (last_of pdus) ≡ f
          → then {A = ℕ} {B = (Kind × ℕ) × ℕ} f (λ (i p : ℕ). then (kind_mode pdus l (kind_of i) p) (λ (m q : ℕ). Ok ((kind_of i, m), q))) ≡ Err r
          → Twelve pdus l r
      go (Err q) f k = of_choice (index_twelve 0 (last_of pdus) (f ∙ ap Err (answer_one r q k)))
      go (Ok (i, p)) f k = second i p (kind_mode pdus l (kind_of i) p) refl k

  pub twelve_only : apdu_at pdus l 0 ≡ Err r → Twelve pdus l r
  unfolding apdu_within
  twelve_only e = go (leading_at pdus l 0) refl e
    where
      go : (t : Reading (Kind × ℕ)) → leading_at pdus l 0 ≡ t → then t (λ (c : Kind × ℕ) (n : ℕ). rest_at l c.0 c.1 n) ≡ Err r → Twelve pdus l r
      go (Err q) f k = lead_twelve (f ∙ ap Err (answer_one r q k))
      go (Ok ((c, m), n)) f k = rest_twelve c m n f k

-- ---- and there it is refused so

module _ (pdus : PduType) (l : List ℕ) (r : Refusal) where
  lead_refused : extension_bit l 0 ≡ Err r → apdu_at pdus l 0 ≡ Err r
  unfolding apdu_within leading_at extensible_index
  lead_refused e = rw e

  index_refused : (at last : ℕ) → extension_bit l at ≡ Err r → extensible_index l at last ≡ Err r
  unfolding extensible_index
  index_refused at last e = rw e

  reason_refused : (c : Kind) (m at : ℕ) → is_enumerated c ≡ true → extension_bit l at ≡ Err r → rest_at l c m at ≡ Err r
  unfolding rest_within
  reason_refused kind.AbortUser m at y e = rw (index_refused at user_last e)
  reason_refused kind.AbortProvider m at y e = rw (index_refused at provider_last e)
  reason_refused kind.Start m at y e = never (cc)
  reason_refused kind.Send m at y e = never (cc)
  reason_refused kind.Forward m at y e = never (cc)
  reason_refused kind.ForwardResponse m at y e = rw (index_refused at response_last e)

  data_refused : (c : Kind) (m at : ℕ) → holds_data c ≡ true → data_at l at ≡ Err r → rest_at l c m at ≡ Err r
  unfolding rest_within
  data_refused kind.AbortUser m at y e = never (cc)
  data_refused kind.AbortProvider m at y e = never (cc)
  data_refused kind.Start m at y e = rw e
  data_refused kind.Send m at y e = rw e
  data_refused kind.Forward m at y e = never (cc)
  data_refused kind.ForwardResponse m at y e = never (cc)

  rest_refused : (c : Kind) (m at : ℕ) → leading_at pdus l 0 ≡ Ok ((c, m), at) → rest_at l c m at ≡ Err r
      → apdu_at pdus l 0 ≡ Err r
  unfolding apdu_within
  rest_refused c m at f e = rw f e

  -- additions that are refused, behind a root that was read
  additions_refused : (at : ℕ) → Marked pdus l at → additions_at l at ≡ Err r → apdu_at pdus l 0 ≡ Err r
  unfolding data_within with_additions
  additions_refused at o e = rest_refused o.kind o.mode o.begin o.led
      (data_refused o.kind o.mode o.begin o.holds (rw (o.extension, o.presence, o.set, o.root, e)))

  count_refused : (at : ℕ) → extension_bit l at ≡ Err r → additions_at l at ≡ Err r
  unfolding additions_at addition_count
  count_refused at e = rw e

  none_refused : (at n p next : ℕ) → addition_count l at ≡ Ok (n, p) → bit_field l p n ≡ Ok (0, next)
      → r ≡ refusal p Extension → additions_at l at ≡ Err r
  unfolding additions_at additions_there
  none_refused at n p next c f e = rw (c, f, e)

  pub twelve_is : Twelve pdus l r → apdu_at pdus l 0 ≡ Err r
  twelve_is (of_choice e) = lead_refused e
  twelve_is (of_enumerated c m at y f e) = rest_refused c m at f (reason_refused c m at y e)
  twelve_is (of_count at o e) = additions_refused at o (count_refused at e)
  twelve_is (of_none at n p next o c f e) = additions_refused at o (none_refused at n p next c f e)
