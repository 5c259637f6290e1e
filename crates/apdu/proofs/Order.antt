-- TAIL is last: it is refused exactly where every field stands and is within the sizes.
-- Assumes nothing.
use mathlib.Core.Path.{◌≡◌, refl, ap, ◌∙◌}
use mathlib.Core.Bool.{Bool, true, false, cond}
use mathlib.Core.List.{List}
use Prim.Native.Nat.{ℕ, ◌+◌, ◌%◌, ◌≤◌}
use native.Mathlib.Omega.{arith}
use lib.Count.{ones}
use lib.Dec.{leb, eqb}
use Rattle.bits.proofs.Numbers.{Bits}
use Rattle.fields.specs.Additions.{addition_count, additions_there, additions_at}
use Rattle.fields.specs.Fields.{refusal, refused_at, bit_field, extension_bit, extensible_index, then}
use Rattle.fields.specs.Encodings.{index_bits}
use Rattle.fields.specs.declared.Refusal.{Refusal}
use Rattle.fields.specs.declared.Fault.TheVariants.{Short, Range, Extension, LengthForm, Limit, Tail, Default}
use Rattle.fields.proofs.RoundTrip.{Stands}
use Rattle.apdu.specs.Sizes.{user_last, provider_last}
use Rattle.apdu.specs.Headings.{response_last}
use Rattle.apdu.specs.Pdus.{last_of, kind_of, index_of}
use Rattle.apdu.specs.Reading.{parts_at, with_additions, data_within, data_at, forward_at, kind_mode, leading_at, tail_at, ended_at, rest_within, rest_at, apdu_within, apdu_at}
use Rattle.apdu.specs.Writing.{apdu_fits}
use Rattle.pdus.specs.declared.PduType.{PduType}
use Rattle.apdu.specs.declared.Kind.{Kind}
use Rattle.apdu.specs.declared.Kind.TheVariants as kind
use Rattle.apdu.specs.declared.Data.{Data}
use Rattle.apdu.specs.declared.Forward.{Forward}
use Rattle.apdu.specs.declared.Apdu.{Apdu}
use Rattle.apdu.specs.declared.Apdu.TheVariants as apdu
use Rattle.apdu.proofs.Bounds.{never}
use Rattle.apdu.proofs.Spared.{Not, Spared, spared_value, spared_fault, spared_then, spared_cond, bits_spared, whole_spared, kind_mode_spared, parts_spared, forward_spared, stepped_spared}
use Rattle.apdu.proofs.Contents.{stands_at}
use Rattle.apdu.proofs.Apdus.{Standing, Stood, user_stood, provider_stood, start_stood, send_stood, forward_stood, response_stood, ground_only, lead_read, value_place}
use Rattle.std.specs.Prelude.{Err, Ok, Result}
use Rattle.fields.specs.Fields.{Reading}

-- TAIL is none of the faults of a field
tail_not : (wrong : ℕ) → Not (refusal wrong Tail)
tail_not wrong =
    record {
      short = λ (e : Short ≡ Tail). never (cc);
      range = λ (e : Range ≡ Tail). never (cc);
      form = λ (e : LengthForm ≡ Tail). never (cc);
      limit = λ (e : Limit ≡ Tail). never (cc);
      default = λ (e : Default ≡ Tail). never (cc);
    }

module _ (wrong : ℕ) where
  -- TAIL, at any place
  abbrev tail_refusal : Refusal
  tail_refusal = refusal wrong Tail

  not_tail : Not tail_refusal
  not_tail = tail_not wrong

  -- ---- no field is refused with TAIL

  abbrev Early : {B : Type 0} → Result B Refusal → Type 0
  Early f = Spared tail_refusal not_tail f

  extension_early : (at : ℕ) → Early (refused_at {A = ℕ × ℕ} at Extension)
  extension_early at = spared_fault tail_refusal not_tail Extension at (λ (e : Extension ≡ Tail). never (cc))

  extension_bit_early : (l : List ℕ) (at : ℕ) → Early (extension_bit l at)
  unfolding extension_bit
  extension_bit_early l at =
      spared_then tail_refusal not_tail (bit_field l at 1) _ (bits_spared tail_refusal not_tail l at 1)
      (λ (b n : ℕ). spared_cond tail_refusal not_tail (eqb b 0) (Ok (0, n)) (refused_at at Extension)
      (spared_value tail_refusal not_tail 0 n) (extension_early at))

  index_early : (l : List ℕ) (at last : ℕ) → Early (extensible_index l at last)
  unfolding extensible_index
  index_early l at last = spared_then tail_refusal not_tail (extension_bit l at) _ (extension_bit_early l at)
      (λ (b n : ℕ). whole_spared tail_refusal not_tail l n 0 last)

  -- additions: the count, which are there, and each by its length
  count_early : (l : List ℕ) (at : ℕ) → Early (addition_count l at)
  unfolding addition_count
  count_early l at =
      spared_then tail_refusal not_tail (extension_bit l at) _ (extension_bit_early l at)
      (λ (b p : ℕ). spared_then tail_refusal not_tail (bit_field l at 7) _ (bits_spared tail_refusal not_tail l at 7)
      (λ (v n : ℕ). spared_value tail_refusal not_tail (v + 1) n))

  there_early : (l : List ℕ) (at n : ℕ) → Early (additions_there l at n)
  unfolding additions_there
  there_early l at n =
      spared_then tail_refusal not_tail (bit_field l at n) _ (bits_spared tail_refusal not_tail l at n)
      (λ (v m : ℕ). spared_cond tail_refusal not_tail (eqb v 0) (refused_at at Extension) (Ok (v, m))
      (extension_early at) (spared_value tail_refusal not_tail v m))

  additions_early : (l : List ℕ) (at : ℕ) → Early (additions_at l at)
  unfolding additions_at
  additions_early l at =
      spared_then tail_refusal not_tail (addition_count l at) _ (count_early l at)
      (λ (n p : ℕ). spared_then tail_refusal not_tail (additions_there l p n) _ (there_early l p n)
      (λ (v q : ℕ). stepped_spared tail_refusal not_tail l (ones v) q))

  -- ---- so message data and leading fields are not

  added_early : (l : List ℕ) (t : Reading Data) → Early t → Early (with_additions l t)
  unfolding with_additions
  added_early l t h = spared_then tail_refusal not_tail t _ h (λ (d : Data) (n : ℕ).
      spared_then tail_refusal not_tail (additions_at l n) _ (additions_early l n) (λ (v after : ℕ). spared_value tail_refusal not_tail d after))

  data_early : (l : List ℕ) (at : ℕ) → Early (data_at l at)
  unfolding data_within
  data_early l at =
      spared_then tail_refusal not_tail (bit_field l at 1) _ (bits_spared tail_refusal not_tail l at 1) (λ (x p : ℕ).
      spared_then tail_refusal not_tail (bit_field l p 2) _ (bits_spared tail_refusal not_tail l p 2) (λ (v q : ℕ).
      spared_cond tail_refusal not_tail (eqb x 0) (parts_at l q (leb 2 v) (eqb (v % 2) 1)) (with_additions l (parts_at l q (leb 2 v) (eqb (v % 2) 1)))
      (parts_spared tail_refusal not_tail l q (leb 2 v) (eqb (v % 2) 1))
      (added_early l (parts_at l q (leb 2 v) (eqb (v % 2) 1)) (parts_spared tail_refusal not_tail l q (leb 2 v) (eqb (v % 2) 1)))))

  lead_early : (pdus : PduType) (l : List ℕ) (at : ℕ) → Early (leading_at pdus l at)
  unfolding leading_at
  lead_early pdus l at =
      spared_then tail_refusal not_tail (extensible_index l at (last_of pdus)) _ (index_early l at (last_of pdus)) (λ (i p : ℕ).
      spared_then tail_refusal not_tail (kind_mode pdus l (kind_of i) p) _
      (kind_mode_spared tail_refusal not_tail pdus l (kind_of i) p) (λ (m q : ℕ). spared_value tail_refusal not_tail (kind_of i, m) q))

  -- ---- where an APDU is refused with TAIL, all its fields stand

  pub record TailOnly (pdus : PduType) (l : List ℕ) (at : ℕ) : Type 0 where
    pub value : Apdu
    pub place : ℕ
    pub placed_fits : apdu_fits pdus l l l value ≡ true
    pub stands : Standing pdus l at place value
    pub tail : tail_at l place ≡ Err tail_refusal

  on_reading : {A : Type 0} (R : Type 0) (f : Reading A) (k : A → ℕ → Result Apdu Refusal) → Early f
      → ((v : A) (n : ℕ) → f ≡ Ok (v, n) → k v n ≡ Err tail_refusal → R)
      → then f k ≡ Err tail_refusal → R
  on_reading R (Ok (v, n)) k h g e = g v n refl e
  on_reading R (Err r) k h g e =
      let s : r ≡ tail_refusal = cc in
      absurd (h (ap Err s))

  ended_tail : (l : List ℕ) (at : ℕ) (a : Apdu) → ended_at l at a ≡ Err tail_refusal → tail_at l at ≡ Err tail_refusal
  unfolding ended_at
  ended_tail l at a e = go (tail_at l at) refl e
    where
      go : (f : Reading ℕ) → tail_at l at ≡ f
          → then f (λ (v n : ℕ). Ok a) ≡ Err tail_refusal
          → tail_at l at ≡ Err tail_refusal
      go (Ok (v, n)) p k = never (cc)
      go (Err r) p k =
          let s : r ≡ tail_refusal = cc in
          p ∙ ap Err s

  only : (pdus : PduType) (l : List ℕ) (at n : ℕ) (a : Apdu) → Stood pdus l at a n
      → ended_at l n a ≡ Err tail_refusal → TailOnly pdus l at
  only pdus l at n a s e = record { value = a; place = n; placed_fits = s.placed_fits; stands = s.stands; tail = ended_tail l n a e }

  rest_tail : (pdus : PduType) (l : List ℕ) (at p : ℕ) (c : Kind) (m q : ℕ) → Bits l → index_of c ≤ last_of pdus
      → Stands l at (index_bits (last_of pdus) (index_of c)) p → kind_mode pdus l c p ≡ Ok (m, q)
      → rest_at l c m q ≡ Err tail_refusal → TailOnly pdus l at
  unfolding kind_mode rest_within
  rest_tail pdus l at p kind.AbortUser m q b u s f k =
      on_reading (TailOnly pdus l at) (extensible_index l q user_last) _ (index_early l q user_last)
      (λ (r n : ℕ) (g : extensible_index l q user_last ≡ Ok (r, n))
      (e : ended_at l n (apdu.AbortUser r) ≡ Err tail_refusal). only pdus l at n (apdu.AbortUser r)
      (user_stood pdus l at q n r b (stands_at l at p q _ (value_place p m q f) s) g) e) k
  rest_tail pdus l at p kind.AbortProvider m q b u s f k =
      on_reading (TailOnly pdus l at) (extensible_index l q provider_last) _ (index_early l q provider_last)
      (λ (r n : ℕ) (g : extensible_index l q provider_last ≡ Ok (r, n))
      (e : ended_at l n (apdu.AbortProvider r) ≡ Err tail_refusal). only pdus l at n
      (apdu.AbortProvider r) (provider_stood pdus l at q n r b (stands_at l at p q _ (value_place p m q f) s) g)
      e) k
  rest_tail pdus l at p kind.Start m q b u s f k =
      on_reading (TailOnly pdus l at) (data_at l q) _ (data_early l q) (λ (d : Data) (n : ℕ) (g : data_at l q ≡ Ok (d, n))
      (e : ended_at l n (apdu.Start m d) ≡ Err tail_refusal). only pdus l at n (apdu.Start m d)
      (start_stood pdus l at p q n m d b s f g) e) k
  rest_tail pdus l at p kind.Send m q b u s f k =
      on_reading (TailOnly pdus l at) (data_at l q) _ (data_early l q) (λ (d : Data) (n : ℕ) (g : data_at l q ≡ Ok (d, n))
      (e : ended_at l n (apdu.Send d) ≡ Err tail_refusal). only pdus l at n (apdu.Send d)
      (send_stood pdus l at q n d b (stands_at l at p q _ (value_place p m q f) s) g) e) k
  rest_tail pdus l at p kind.Forward m q b u s f k =
      on_reading (TailOnly pdus l at) (forward_at l q) _ (forward_spared tail_refusal not_tail l q) (λ (x : Forward) (n : ℕ) (g : forward_at l q ≡ Ok (x, n)) (e : ended_at l n (apdu.Forward x) ≡ Err tail_refusal).
      only pdus l at n (apdu.Forward x) (forward_stood pdus l at q n x b (ground_only pdus 4 u (omega arith))
      (stands_at l at p q _ (value_place p m q f) s) g) e) k
  rest_tail pdus l at p kind.ForwardResponse m q b u s f k =
      on_reading (TailOnly pdus l at) (extensible_index l q response_last) _ (index_early l q response_last)
      (λ (r n : ℕ) (g : extensible_index l q response_last ≡ Ok (r, n))
      (e : ended_at l n (apdu.ForwardResponse r) ≡ Err tail_refusal). only pdus l at n
      (apdu.ForwardResponse r) (response_stood pdus l at q n r b (ground_only pdus 5 u (omega arith))
      (stands_at l at p q _ (value_place p m q f) s) g) e) k

  pub tail_last : (pdus : PduType) (l : List ℕ) (at : ℕ) → Bits l → apdu_at pdus l at ≡ Err tail_refusal → TailOnly pdus l at
  unfolding apdu_within
  tail_last pdus l at b e = on_reading (TailOnly pdus l at) (leading_at pdus l at) _ (lead_early pdus l at) found e
    where
      found : (lead : Kind × ℕ) (n : ℕ) → leading_at pdus l at ≡ Ok (lead, n) → rest_at l lead.0 lead.1 n ≡ Err tail_refusal → TailOnly pdus l at
      found (c, m) n f k =
          let i = lead_read pdus l at c m n b f in
          rest_tail pdus l at i.place c m n b i.most i.stands i.mode k
