-- What the leading bits of an APDU answer is what the whole APDU answers, in each application type.
-- Assumes nothing.
use mathlib.Core.Path.{◌≡◌, refl, ap, sym, subst}
use mathlib.Core.List.{List}
use Prim.Native.Nat.{ℕ, ◌+◌, ◌*◌, ◌%◌}
use native.Mathlib.Omega.{arith}
use Rattle.fields.specs.Fields.{extensible_index, Reading}
use Rattle.fields.specs.Refusals.{number_of, packed}
use Rattle.fields.specs.declared.Fault.{Fault}
use Rattle.fields.specs.declared.Fault.TheVariants.{Short, Range, Extension, LengthForm, Limit, Tail, NotCarried, Default}
use Rattle.fields.specs.declared.Refusal.{Refusal}
use Rattle.apdu.specs.Pdus.{lent}
use Rattle.apdu.specs.Sizes.{provider_last}
use Rattle.apdu.specs.Headings.{response_last}
use Rattle.apdu.specs.Reading.{leading_at}
use Rattle.codec.specs.Codec.{user_last, start_at, send_at, forward_at, rest_at, apdu_at}
use Rattle.editions.specs.declared.Edition.{Edition}
use Rattle.editions.specs.declared.Edition.TheVariants.{Plain, Protected}
use Rattle.pdus.specs.declared.PduType.{PduType}
use Rattle.pdus.specs.declared.PduType.TheVariants.{AircraftPdus, GroundPdus}
use Rattle.apdu.specs.declared.Kind.{Kind}
use Rattle.apdu.specs.declared.Kind.TheVariants as kind
use Rattle.apdu.specs.declared.Data.{Data}
use Rattle.apdu.specs.declared.Forward.{Forward}
use Rattle.apdu.specs.declared.Apdu.{Apdu}
use Rattle.apdu.specs.declared.Apdu.TheVariants as apdu
use Rattle.quick.specs.Leading.{lead_number, leading_call}
use Rattle.quick.specs.Quick.{kind_in, mode_in as mode_of, Leads}
use Rattle.quick.proofs.Laws.{Of, by_reading, led_accepted}
use Rattle.card.specs.Recorded.{apdu_number, apdu_answer, apdu_call}
use Rattle.card_laws.specs.Answers.{refusal_in, tag_in, type_number, SameLead}
use Rattle.std.specs.Prelude.{Err, Ok, Result}

never : {A : Type 0} → ◌≡◌ {A = ℕ} 0 1 → A
never e = absurd (omega arith)

-- ---- over one type

rest_of : (ed : Edition) (t : PduType) (l : List ℕ) (c : Kind) (m n : ℕ) (a : Apdu) → rest_at ed t l c m n ≡ Ok a → Of c m a
unfolding rest_at
rest_of ed t l kind.AbortUser m n a e = by_reading (extensible_index l n (user_last ed)) l (λ (r : ℕ). apdu.AbortUser r) a (Of kind.AbortUser m a) (λ (r : ℕ) (g : apdu.AbortUser r ≡ a). rw (sym g) (record { kind = refl; mode = refl })) e
rest_of ed t l kind.AbortProvider m n a e = by_reading (extensible_index l n provider_last) l (λ (r : ℕ). apdu.AbortProvider r) a (Of kind.AbortProvider m a) (λ (r : ℕ) (g : apdu.AbortProvider r ≡ a). rw (sym g) (record { kind = refl; mode = refl })) e
rest_of ed t l kind.Start m n a e = by_reading (start_at ed t l n) l (λ (d : Data). apdu.Start m d) a (Of kind.Start m a) (λ (d : Data) (g : apdu.Start m d ≡ a). rw (sym g) (record { kind = refl; mode = refl })) e
rest_of ed t l kind.Send m n a e = by_reading (send_at ed t l n) l (λ (d : Data). apdu.Send d) a (Of kind.Send m a) (λ (d : Data) (g : apdu.Send d ≡ a). rw (sym g) (record { kind = refl; mode = refl })) e
rest_of ed t l kind.Forward m n a e = by_reading (forward_at ed l n) l (λ (f : Forward). apdu.Forward f) a (Of kind.Forward m a) (λ (f : Forward) (g : apdu.Forward f ≡ a). rw (sym g) (record { kind = refl; mode = refl })) e
rest_of ed t l kind.ForwardResponse m n a e = by_reading (extensible_index l n response_last) l (λ (r : ℕ). apdu.ForwardResponse r) a (Of kind.ForwardResponse m a) (λ (r : ℕ) (g : apdu.ForwardResponse r ≡ a). rw (sym g) (record { kind = refl; mode = refl })) e

leads : (ed : Edition) (t : PduType) (l : List ℕ) (a : Apdu) → apdu_at ed t l ≡ Ok a → Leads (leading_at t l 0) a
unfolding apdu_at
leads ed t l a e = led_accepted (rest_at ed t l) t l 0 a
    (λ (c : Kind) (m n : ℕ) (k : rest_at ed t l c m n ≡ Ok a). rest_of ed t l c m n a k) e

lead_refused : (ed : Edition) (t : PduType) (l : List ℕ) (r : Refusal) → leading_at t l 0 ≡ Err r
    → apdu_at ed t l ≡ Err r
unfolding apdu_at
lead_refused ed t l r e = rw e

-- a refusal of the leading bits is the whole APDU's answer
refused_same : (ed : Edition) (pdus : PduType) (l : List ℕ) → (refusal_in (lead_number (leading_at pdus l 0)) ≡ 0 → ⊥)
    → apdu_answer ed (apdu_at ed pdus l) ≡ lead_number (leading_at pdus l 0)
unfolding lead_number apdu_answer
refused_same ed pdus l n = by (leading_at pdus l 0) refl n
  where
    by : (t : Reading (Kind × ℕ)) → leading_at pdus l 0 ≡ t → (refusal_in (lead_number t) ≡ 0 → ⊥) → apdu_answer ed (apdu_at ed pdus l) ≡ lead_number t
    by (Ok ((k, m), next)) e n = absurd (n (omega arith))
    by (Err r) e n = ap (apdu_answer ed) (lead_refused ed pdus l r e)

-- an APDU that was read
apdu_same : (ed : Edition) (a : Apdu) (n : ℕ) → SameLead (lead_number (Ok ((kind_in a, mode_of a), n))) (apdu_number ed a)
unfolding lead_number apdu_number
apdu_same ed (apdu.AbortUser r) n = record { tag = omega arith; mode = λ (e : tag_in (apdu_number ed (apdu.AbortUser r)) ≡ 2). omega arith; none = λ (e : tag_in (apdu_number ed (apdu.AbortUser r)) ≡ 2 → ⊥). omega arith }
apdu_same ed (apdu.AbortProvider r) n = record { tag = omega arith; mode = λ (e : tag_in (apdu_number ed (apdu.AbortProvider r)) ≡ 2). omega arith; none = λ (e : tag_in (apdu_number ed (apdu.AbortProvider r)) ≡ 2 → ⊥). omega arith }
apdu_same ed (apdu.Start m d) n = record { tag = omega arith; mode = λ (e : tag_in (apdu_number ed (apdu.Start m d)) ≡ 2). omega arith; none = λ (e : tag_in (apdu_number ed (apdu.Start m d)) ≡ 2 → ⊥). absurd (e (omega arith)) }
apdu_same ed (apdu.Send d) n = record { tag = omega arith; mode = λ (e : tag_in (apdu_number ed (apdu.Send d)) ≡ 2). omega arith; none = λ (e : tag_in (apdu_number ed (apdu.Send d)) ≡ 2 → ⊥). omega arith }
apdu_same ed (apdu.Forward f) n = record { tag = omega arith; mode = λ (e : tag_in (apdu_number ed (apdu.Forward f)) ≡ 2). omega arith; none = λ (e : tag_in (apdu_number ed (apdu.Forward f)) ≡ 2 → ⊥). omega arith }
apdu_same ed (apdu.ForwardResponse r) n = record { tag = omega arith; mode = λ (e : tag_in (apdu_number ed (apdu.ForwardResponse r)) ≡ 2). omega arith; none = λ (e : tag_in (apdu_number ed (apdu.ForwardResponse r)) ≡ 2 → ⊥). omega arith }

-- a refusal's number is not 0
fault_counts : (f : Fault) (p : ℕ) → (number_of f + 256 * p) % 256 ≡ 0 → ⊥
unfolding number_of
fault_counts Short p e = absurd (omega arith)
fault_counts Range p e = absurd (omega arith)
fault_counts Extension p e = absurd (omega arith)
fault_counts LengthForm p e = absurd (omega arith)
fault_counts Limit p e = absurd (omega arith)
fault_counts Tail p e = absurd (omega arith)
fault_counts NotCarried p e = absurd (omega arith)
fault_counts Default p e = absurd (omega arith)

accepted_same : (ed : Edition) (pdus : PduType) (l : List ℕ) → refusal_in (apdu_answer ed (apdu_at ed pdus l)) ≡ 0
    → SameLead (lead_number (leading_at pdus l 0)) (apdu_answer ed (apdu_at ed pdus l))
unfolding apdu_answer packed
accepted_same ed pdus l z = by (apdu_at ed pdus l) refl z
  where
    by : (t : Result Apdu Refusal) → apdu_at ed pdus l ≡ t → refusal_in (apdu_answer ed t) ≡ 0
        → SameLead (lead_number (leading_at pdus l 0)) (apdu_answer ed t)
    by (Ok a) e z =
        let o = leads ed pdus l a e in
        subst (λ (t : Reading (Kind × ℕ)). SameLead (lead_number t) (apdu_number ed a)) (sym o.says) (apdu_same ed a o.next)
    by (Err r) e z = absurd (fault_counts r.fault (r.at % 72057594037927936) z)

-- ---- the two calls

-- what the leading bits refuse, the whole is refused for, with the same answer
pub leading_refused : (ed : Edition) (t : PduType) (s : List ℕ)
    → (refusal_in (leading_call (type_number Protected t) s) ≡ 0 → ⊥)
    → apdu_call (type_number ed t) s ≡ leading_call (type_number Protected t) s
unfolding leading_call apdu_call
leading_refused Protected AircraftPdus s n = refused_same Protected AircraftPdus (lent s) n
leading_refused Protected GroundPdus s n = refused_same Protected GroundPdus (lent s) n
leading_refused Plain AircraftPdus s n = refused_same Plain AircraftPdus (lent s) n
leading_refused Plain GroundPdus s n = refused_same Plain GroundPdus (lent s) n

-- what the whole is read as, the leading bits say
pub leading_accepted : (ed : Edition) (t : PduType) (s : List ℕ) → refusal_in (apdu_call (type_number ed t) s) ≡ 0
    → SameLead (leading_call (type_number Protected t) s) (apdu_call (type_number ed t) s)
unfolding leading_call apdu_call
leading_accepted Protected AircraftPdus s z = accepted_same Protected AircraftPdus (lent s) z
leading_accepted Protected GroundPdus s z = accepted_same Protected GroundPdus (lent s) z
leading_accepted Plain AircraftPdus s z = accepted_same Plain AircraftPdus (lent s) z
leading_accepted Plain GroundPdus s z = accepted_same Plain GroundPdus (lent s) z
