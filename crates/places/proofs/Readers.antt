-- The claims over any reader, and of the readers of fields.
-- Assumes nothing.
use mathlib.Core.Path.{◌≡◌, refl, ap, sym, subst, fun_ext, ◌∙◌}
use mathlib.Core.Bool.{Bool, true, false, cond, not, ◌&&◌}
use mathlib.Core.List.{List, [], ◌∷◌}
use Prim.Native.Nat.{ℕ, zero, suc, ◌+◌, ◌-◌, ◌*◌, ◌≤◌, ◌<◌}
use native.Mathlib.Omega.{arith}
use native.Mathlib.Decide.{dec_lt}
use borrow.Author.Tests.{le-leb, lt-leb, leb-true, leb-false}
use lib.Count.{ones}
use lib.Dec.{leb, ltb, eqb}
use lib.ListN.{length, take, drop}
use lib.Seq.{take-take, take-nil, length-take-le}
use Rattle.words.proofs.Laws.{ok_value, ok_place}
use Rattle.bits.specs.Bits.{num_of, bits_n}
use Rattle.bits.proofs.Numbers.{num_bits_n}
use Rattle.bits.specs.Read.{read_bits}
use Rattle.bits.proofs.Reading.{number_is}
use Rattle.fields.specs.Additions.{addition_count, additions_there, addition_at, stepped_over, additions_at}
use Rattle.fields.specs.Fields.{refusal, refused_at, then, field_of, bit_field, extension_bit, width_of, whole_number, extensible_index, length_at, length_from, long_length, length_within, run_at, contents_at, string_at, sized_at}
use Rattle.fields.specs.declared.Fault.{Fault}
use Rattle.fields.specs.declared.Fault.TheVariants.{Short, Range, Extension, LengthForm, Limit, Tail}
use Rattle.fields.specs.declared.Refusal.{Refusal}
use Rattle.places.specs.Claims.{Seen, went, refused, Alike, Went, FieldAt, Placed, Refusing, Sound, seen_field}
use Rattle.std.specs.Prelude.{Err, None, Ok, Option, Result, Some}
use Rattle.fields.specs.Fields.{Reading}

-- ---- over any reader

pub never : {A : Type 0} → ◌≡◌ {A = ℕ} 0 1 → A
never z = absurd (omega arith)

pub clash : {A : Type 0} (n : ℕ) (r : Refusal) → went n ≡ refused r → A
clash n r e = never (cc)

pub one_place : (n m : ℕ) → went n ≡ went m → n ≡ m
one_place n m e = cc

pub one_refusal : (r s : Refusal) → refused r ≡ refused s → r ≡ s
one_refusal r s e = cc

alike_less : (k n : ℕ) (l m : List ℕ) → k ≤ n → Alike n l m → Alike k l m
alike_less k n l m h a =
    let g = a.long in
    record { long = omega arith; front = sym (take-take k n m h) ∙ ap (take k) a.front ∙ take-take k n l h }

pub alike_cut : (n p : ℕ) (l : List ℕ) → n ≤ p → p ≤ length l → Alike n l (take p l)
alike_cut n p l h w =
    let k : length (take p l) ≡ p = length-take-le p l w in
    record { long = omega arith; front = take-take n p l h }

-- an answer that is known
pub went_sound : {A : Type 0} (seen : A → Seen) (rd : List ℕ → A) (l : List ℕ) (at n : ℕ) → seen (rd l) ≡ went n → Went rd l at n → Sound seen rd l at
went_sound seen rd l at n told w =
    record {
      next = λ (k : ℕ) (h : seen (rd l) ≡ went k). subst (λ (z : ℕ). Went rd l at z) (one_place n k (sym told ∙ h)) w;
      place = λ (r : Refusal) (h : seen (rd l) ≡ refused r). clash n r (sym told ∙ h);
    }

pub placed_sound : {A : Type 0} (seen : A → Seen) (rd : List ℕ → A) (l : List ℕ) (at : ℕ) (r : Refusal) → seen (rd l) ≡ refused r → Placed seen rd l at r → Sound seen rd l at
placed_sound seen rd l at r told p =
    record {
      next = λ (k : ℕ) (h : seen (rd l) ≡ went k). clash k r (sym h ∙ told);
      place = λ (q : Refusal) (h : seen (rd l) ≡ refused q). subst (λ (z : Refusal). Placed seen rd l at z)
          (one_refusal r q (sym told ∙ h)) p;
    }

-- a value that is not looked for in the bits
pub sound_value : {A : Type 0} (seen : A → Seen) (x : A) (l : List ℕ) (n : ℕ) → n ≤ length l → seen x ≡ went n → Sound seen (λ (m : List ℕ). x) l n
sound_value seen x l n w e = went_sound seen (λ (m : List ℕ). x) l n n e (record { after = omega arith; within = w; same = λ (m : List ℕ) (a : Alike n l m). refl })

-- one reader after another: a refusal of the first is handed up unchanged, and the second goes on where the first ended
module _ {X A : Type 0} (seenX : X → Seen) (seenA : A → Seen) (up : Refusal → A) (f : List ℕ → X) (k : X → List ℕ → A) (l : List ℕ) (at : ℕ)
    (said : (r : Refusal) → seenA (up r) ≡ refused r) (hands : (x : X) (r : Refusal) (m : List ℕ) → seenX x ≡ refused r → k x m ≡ up r) (s : Sound seenX f l at) where
  both : List ℕ → A
  both m = k (f m) m

  -- the first was read: bits that begin alike lead to the second
  module _ (n : ℕ) (e : seenX (f l) ≡ went n) where
    first : Went f l at n
    first = s.next n e

    second : (m : List ℕ) (j : ℕ) → n ≤ j → Alike j l m → both m ≡ k (f l) m
    unfolding both
    second m j h q = ap (λ (x : X). k x m) (first.same m (alike_less n j l m h q))

    both_went : (j : ℕ) → Went (k (f l)) l n j → Went both l at j
    unfolding both
    both_went j v =
        let a = first.after in
        let b = v.after in
        record { after = omega arith; within = v.within; same = λ (m : List ℕ) (q : Alike j l m). second m j b q ∙ v.same m q }

    -- also where the bits are cut behind the first
    second_cut : (j : ℕ) → n ≤ j → j ≤ length l → seenA (both (take j l)) ≡ seenA (k (f l) (take j l))
    second_cut j h w = ap seenA (second (take j l) n (omega arith) (alike_cut n j l h w))

    both_field : (r : Refusal) → n ≤ r.at → FieldAt seenA (k (f l)) l r → FieldAt seenA both l r
    unfolding both
    both_field r h z =
        let c = z.behind in
        record {
          end = z.end;
          behind = c;
          cut = λ (j : ℕ) (a : r.at ≤ j) (b : j < z.end) (w : j ≤ length l). second_cut j (omega arith) w ∙ z.cut j a b w;
          same = λ (w : z.end ≤ length l) (m : List ℕ) (q : Alike z.end l m). second m z.end (omega arith) q ∙ z.same w m q;
          short = z.short;
        }

    both_placed : (r : Refusal) → Placed seenA (k (f l)) l n r → Placed seenA both l at r
    both_placed r v =
        let a = first.after in
        let b = v.after in
        record { after = omega arith; within = v.within; field = λ (t : r.fault ≡ Tail → ⊥). both_field r b (v.field t) }

  -- the first was refused
  module _ (r : Refusal) (e : seenX (f l) ≡ refused r) where
    stopped : Placed seenX f l at r
    stopped = s.place r e

    stopped_as : seenA (both l) ≡ refused r
    unfolding both
    stopped_as = ap seenA (hands (f l) r l e) ∙ said r

    -- a refusal of the first in other bits is handed up as well
    stopped_cut : (m : List ℕ) (q : Refusal) → seenX (f m) ≡ refused q → seenA (both m) ≡ refused q
    unfolding both
    stopped_cut m q t = ap seenA (hands (f m) q m t) ∙ said q

    stopped_field : FieldAt seenX f l r → FieldAt seenA both l r
    unfolding both
    stopped_field z =
        record {
          end = z.end;
          behind = z.behind;
          cut = λ (j : ℕ) (a : r.at ≤ j) (b : j < z.end) (w : j ≤ length l). stopped_cut (take j l)
              (refusal r.at Short) (z.cut j a b w);
          same = λ (w : z.end ≤ length l) (m : List ℕ) (q : Alike z.end l m). ap (λ (x : X). k x m)
              (z.same w m q) ∙ hands (f l) r m e ∙ sym (hands (f l) r l e);
          short = z.short;
        }

    stopped_placed : Placed seenA both l at r
    stopped_placed = record { after = stopped.after; within = stopped.within; field = λ (t : r.fault ≡ Tail → ⊥). stopped_field (stopped.field t) }

  pub refusing_bind : ((n : ℕ) → seenX (f l) ≡ went n → at ≤ n → n ≤ length l → Refusing seenA (k (f l)) l n)
      → Refusing seenA (λ (m : List ℕ). k (f m) m) l at
  unfolding both
  refusing_bind on q h = by (seenX (f l)) refl
    where
      by : (t : Seen) → seenX (f l) ≡ t → Placed seenA both l at q
      by (went n) e = both_placed n e q (on n e (first n e).after (first n e).within q h)
      by (refused r) e = subst (λ (z : Refusal). Placed seenA both l at z) (one_refusal r q (sym (stopped_as r e) ∙ h)) (stopped_placed r e)

  pub sound_bind : ((n : ℕ) → seenX (f l) ≡ went n → at ≤ n → n ≤ length l → Sound seenA (k (f l)) l n)
      → Sound seenA (λ (m : List ℕ). k (f m) m) l at
  unfolding both
  sound_bind on = record { next = nexts; place = refusing_bind (λ (n : ℕ) (e : seenX (f l) ≡ went n) (a : at ≤ n) (b : n ≤ length l). (on n e a b).place) }
    where
      nexts : (j : ℕ) → seenA (both l) ≡ went j → Went both l at j
      nexts j h = by (seenX (f l)) refl
        where
          by : (t : Seen) → seenX (f l) ≡ t → Went both l at j
          by (went n) e = both_went n e j ((on n e (first n e).after (first n e).within).next j h)
          by (refused r) e = clash j r (sym h ∙ stopped_as r e)

-- a choice that what was read before has made
pub sound_cond : {A : Type 0} (seen : A → Seen) (t : Bool) (f g : List ℕ → A) (l : List ℕ) (at : ℕ) → (t ≡ true → Sound seen f l at) → (t ≡ false → Sound seen g l at) → Sound seen (λ (m : List ℕ). cond t (f m) (g m)) l at
sound_cond seen true f g l at a b = a refl
sound_cond seen false f g l at a b = b refl

-- ---- fields

-- one reading after another, whatever the answer
module _ {A B : Type 0} (seen : Result B Refusal → Seen) (said : (r : Refusal) → seen (Err r) ≡ refused r) (f : List ℕ → Reading A) (k : A → ℕ → List ℕ → Result B Refusal) (l : List ℕ) (at : ℕ) (s : Sound seen_field f l at) where
  hand : (x : Reading A) (r : Refusal) (m : List ℕ) → seen_field x ≡ refused r → then x (λ (v : A) (n : ℕ). k v n m) ≡ Err r
  hand (Ok (v, n)) r m e = clash n r e
  hand (Err q) r m e = ap Err (one_refusal q r e)

  pub sound_after : ((v : A) (n : ℕ) → f l ≡ Ok (v, n) → at ≤ n → n ≤ length l → Sound seen (k v n) l n)
      → Sound seen (λ (m : List ℕ). then (f m) (λ (v : A) (n : ℕ). k v n m)) l at
  sound_after on = sound_bind seen_field seen Err f (λ (x : Reading A) (m : List ℕ). then x (λ (v : A) (n : ℕ). k v n m)) l at said hand s (go (f l) refl)
    where
      go : (x : Reading A) → f l ≡ x → (n : ℕ) → seen_field x ≡ went n → at ≤ n → n ≤ length l
          → Sound seen (λ (m : List ℕ). then x (λ (v : A) (j : ℕ). k v j m)) l n
      go (Ok (v, j)) e n q a b = let i : j ≡ n = one_place j n q in subst (λ (z : ℕ). Sound seen (k v j) l z) i (on v j e (omega arith) (omega arith))
      go (Err r) e n q a b = clash n r (sym q)

  pub refusing_after : ((v : A) (n : ℕ) → f l ≡ Ok (v, n) → at ≤ n → n ≤ length l → Refusing seen (k v n) l n)
      → Refusing seen (λ (m : List ℕ). then (f m) (λ (v : A) (n : ℕ). k v n m)) l at
  refusing_after on = refusing_bind seen_field seen Err f (λ (x : Reading A) (m : List ℕ). then x (λ (v : A) (n : ℕ). k v n m)) l at said hand s (go (f l) refl)
    where
      go : (x : Reading A) → f l ≡ x → (n : ℕ) → seen_field x ≡ went n → at ≤ n → n ≤ length l
          → Refusing seen (λ (m : List ℕ). then x (λ (v : A) (j : ℕ). k v j m)) l n
      go (Ok (v, j)) e n q a b = let i : j ≡ n = one_place j n q in subst (λ (z : ℕ). Refusing seen (k v j) l z) i (on v j e (omega arith) (omega arith))
      go (Err r) e n q a b = clash n r (sym q)

-- and where the answer is a reading again
pub then_sound : {A B : Type 0} (f : List ℕ → Reading A) (k : A → ℕ → List ℕ → Reading B) (l : List ℕ) (at : ℕ) → Sound seen_field f l at
    → ((v : A) (n : ℕ) → f l ≡ Ok (v, n) → at ≤ n → n ≤ length l → Sound seen_field (k v n) l n)
    → Sound seen_field (λ (m : List ℕ). then (f m) (λ (v : A) (n : ℕ). k v n m)) l at
then_sound f k l at s on = sound_after seen_field (λ (r : Refusal). refl) f k l at s on

-- the same after a reading, by whichever name the answer's type has for going on
module _ {X A : Type 0} (seen : A → Seen) (up : Refusal → A) (then' : Reading X → (X → ℕ → A) → A) (said : (r : Refusal) → seen (up r) ≡ refused r)
    (goes : (v : X) (n : ℕ) (k : X → ℕ → A) → then' (Ok (v, n)) k ≡ k v n) (stops : (r : Refusal) (k : X → ℕ → A) → then' (Err r) k ≡ up r) where
  handed_on : (k : X → ℕ → List ℕ → A) (x : Reading X) (r : Refusal) (m : List ℕ) → seen_field x ≡ refused r
      → then' x (λ (v : X) (n : ℕ). k v n m) ≡ up r
  handed_on k (Ok (v, n)) r m e = clash n r e
  handed_on k (Err q) r m e = stops q _ ∙ ap up (one_refusal q r e)

  pub after_field : (f : List ℕ → Reading X) (k : X → ℕ → List ℕ → A) (l : List ℕ) (at : ℕ) → Sound seen_field f l at
      → ((v : X) (n : ℕ) → f l ≡ Ok (v, n) → at ≤ n → n ≤ length l → Sound seen (k v n) l n)
      → Sound seen (λ (m : List ℕ). then' (f m) (λ (v : X) (n : ℕ). k v n m)) l at
  after_field f k l at s on = sound_bind seen_field seen up f
      (λ (x : Reading X) (m : List ℕ). then' x (λ (v : X) (n : ℕ). k v n m)) l at said (handed_on k) s (go (f l) refl)
    where
      go : (x : Reading X) → f l ≡ x → (n : ℕ) → seen_field x ≡ went n → at ≤ n → n ≤ length l
          → Sound seen (λ (m : List ℕ). then' x (λ (v : X) (j : ℕ). k v j m)) l n
      go (Ok (v, j)) e n q a b =
          let i : j ≡ n = one_place j n q in
          subst (λ (z : ℕ). Sound seen (λ (m : List ℕ). then' (Ok (v, j)) (λ (w : X) (i : ℕ). k w i m)) l z) i
          (held v j (on v j e (omega arith) (omega arith)))
        where
          held : (v : X) (j : ℕ) → Sound seen (k v j) l j → Sound seen (λ (m : List ℕ). then' (Ok (v, j)) (λ (w : X) (i : ℕ). k w i m)) l j
          held v j s = subst (λ (rd : List ℕ → A). Sound seen rd l j) (fun_ext (λ (m : List ℕ). sym (goes v j (λ (w : X) (i : ℕ). k w i m)))) s
      go (Err r) e n q a b = clash n r (sym q)

-- ---- a field that is missing, and one that has another fault

pub missing_placed : {A : Type 0} (seen : A → Seen) (rd : List ℕ → A) (l : List ℕ) (at : ℕ) → at ≤ length l → ((k : ℕ) → at ≤ k → k ≤ length l → seen (rd (take k l)) ≡ refused (refusal at Short)) → Placed seen rd l at (refusal at Short)
missing_placed seen rd l at h c =
    record {
      after = omega arith;
      within = h;
      field = λ (t : Short ≡ Tail → ⊥). record {
        end = length l + 1;
        behind = omega arith;
        cut = λ (k : ℕ) (a : at ≤ k) (b : k < length l + 1) (w : k ≤ length l). c k a w;
        same = λ (w : length l + 1 ≤ length l). absurd (omega arith);
        short = (λ (e : Short ≡ Short). omega arith, λ (w : length l < length l + 1). refl);
      };
    }

pub faulty_placed : {A : Type 0} (seen : A → Seen) (rd : List ℕ → A) (l : List ℕ) (at n : ℕ) (why : Fault) → (why ≡ Short → ⊥) → at < n → n ≤ length l → ((m : List ℕ) → Alike n l m → rd m ≡ rd l)
    → ((k : ℕ) → at ≤ k → k < n → k ≤ length l → seen (rd (take k l)) ≡ refused (refusal at Short)) → Placed seen rd l at (refusal at why)
faulty_placed seen rd l at n why faulty b w s c =
    record {
      after = omega arith;
      within = omega arith;
      field = λ (t : why ≡ Tail → ⊥). record {
        end = n;
        behind = b;
        cut = c;
        same = λ (g : n ≤ length l). s;
        short = (λ (e : why ≡ Short). absurd (faulty e), λ (g : length l < n). absurd (omega arith));
      };
    }

-- ---- the primitive readers

-- a part that ends before e is the same among the first e
part_to : (l : List ℕ) (e at n : ℕ) → at + n ≤ e → take n (drop at (take e l)) ≡ take n (drop at l)
part_to l e zero n h = take-take n e l (omega arith)
part_to [] e (suc at) n h = rw (take-nil e)
part_to (x ∷ l) zero (suc at) n h = absurd (omega arith)
part_to (x ∷ l) (suc e) (suc at) n h = part_to l e at n (omega arith)

-- the same bits say the same number
bits_alike : (l m : List ℕ) (at w n : ℕ) → at + w ≤ n → n ≤ length l → Alike n l m → bit_field m at w ≡ bit_field l at w
unfolding bit_field read_bits
bits_alike l m at w n h g a =
    let p : take w (drop at m) ≡ take w (drop at l) = sym (part_to m n at w h) ∙ ap
    (λ (z : List ℕ). take w (drop at z)) a.front ∙ part_to l n at w h in
    let k = a.long in
    rw (le-leb (at + w) (length m) (omega arith), le-leb (at + w) (length l) (omega arith), p)

-- a field of w bits is missing in bits that end before its end
bits_cut : (l : List ℕ) (at w k : ℕ) → k ≤ length l → k < at + w → bit_field (take k l) at w ≡ refused_at at Short
unfolding bit_field read_bits
bits_cut l at w k h b =
    let n : length (take k l) ≡ k = length-take-le k l h in
    let e : leb (at + w) (length (take k l)) ≡ false = lt-leb (at + w) (length (take k l)) (omega arith) in
    go (leb w 64) _ e
  where
    go : (t c : Bool) → c ≡ false
        → field_of at (cond (t && c) (Some (num_of (take w (drop at (take k l))), at + w)) None) ≡ refused_at at Short
    go true true q = never (cc)
    go true false q = refl
    go false c q = refl

-- a field that is missing in the bits is missing in what is left of them
short_cut : (l : List ℕ) (at w k : ℕ) → k ≤ length l → read_bits l at w ≡ None → bit_field (take k l) at w ≡ refused_at at Short
unfolding bit_field read_bits
short_cut l at w k h e = go (leb w 64) (leb (at + w) (length l)) refl e (leb (at + w) (length (take k l))) refl
  where
    n : length (take k l) ≡ k
    n = length-take-le k l h

    go : (a b : Bool) → leb (at + w) (length l) ≡ b
        → cond {A = Option (ℕ × ℕ)} (a && b) (Some (num_of (take w (drop at l)), at + w)) None ≡ None → (c : Bool)
        → leb (at + w) (length (take k l)) ≡ c
        → field_of at (cond {A = Option (ℕ × ℕ)} (a && c) (Some (num_of (take w (drop at (take k l))), at + w)) None) ≡ refused_at at Short
    go false b p q c u = refl
    go true true p q c u = never (cc)
    go true false p q false u = refl
    go true false p q true u =
        let x : at + w ≤ length (take k l) = leb-true _ _ u in
        let y : length l < at + w = leb-false _ _ p in
        let z : length (take k l) ≡ k = n in
        absurd (omega arith)

-- what a field of w bits says
record BitsAre (l : List ℕ) (at w v n : ℕ) : Type 0 where
  place : n ≡ at + w
  within : n ≤ length l
  value : v ≡ num_of (take w (drop at l))

bits_are : (l : List ℕ) (at w v n : ℕ) → bit_field l at w ≡ Ok (v, n) → BitsAre l at w v n
unfolding bit_field
bits_are l at w v n e = go (read_bits l at w) refl e
  where
    go : (x : Option (ℕ × ℕ)) → read_bits l at w ≡ x → field_of at x ≡ Ok (v, n) → BitsAre l at w v n
    go (Some (u, k)) p q =
        let i = number_is l at w u k p in
        let a : u ≡ v = ok_value q in
        let b : k ≡ n = ok_place q in
        let c = i.place in
        let d = i.within in
        record { place = omega arith; within = omega arith; value = sym a ∙ i.value }
    go None p q = never (cc)

-- a field of bits is refused with SHORT only, at its own place
short_only : (l : List ℕ) (at w : ℕ) (r : Refusal) → bit_field l at w ≡ Err r → r ≡ refusal at Short
unfolding bit_field
short_only l at w r e = go (read_bits l at w) e
  where
    go : (x : Option (ℕ × ℕ)) → field_of at x ≡ Err r → r ≡ refusal at Short
    go (Some (v, n)) q = never (cc)
    go None q = cc

-- a field of bits that was read is missing in bits that end inside it
pub field_cut : (l : List ℕ) (at w v n : ℕ) → bit_field l at w ≡ Ok (v, n) → (k : ℕ) → at ≤ k → k < n → k ≤ length l
    → bit_field (take k l) at w ≡ refused_at at Short
field_cut l at w v n e k a b h = let p = (bits_are l at w v n e).place in bits_cut l at w k h (omega arith)

-- and one that was missing stays so
field_short : (l : List ℕ) (at w : ℕ) (r : Refusal) → bit_field l at w ≡ Err r → (k : ℕ) → k ≤ length l
    → bit_field (take k l) at w ≡ refused_at at Short
unfolding bit_field
field_short l at w r e k h = go (read_bits l at w) refl e
  where
    go : (x : Option (ℕ × ℕ)) → read_bits l at w ≡ x → field_of at x ≡ Err r → bit_field (take k l) at w ≡ refused_at at Short
    go (Some (v, n)) p q = never (cc)
    go None p q = short_cut l at w k h p

pub bit_sound : (l : List ℕ) (at w : ℕ) → at ≤ length l → Sound seen_field (λ (m : List ℕ). bit_field m at w) l at
unfolding bit_field
bit_sound l at w h = go (bit_field l at w) refl
  where
    missing : (r : Refusal) → bit_field l at w ≡ Err r → Placed seen_field (λ (m : List ℕ). bit_field m at w) l at r
    missing r e = by (read_bits l at w) refl e
      where
        by : (x : Option (ℕ × ℕ)) → read_bits l at w ≡ x → field_of at x ≡ Err r → Placed seen_field (λ (m : List ℕ). bit_field m at w) l at r
        by (Some (v, n)) p q = never (cc)
        by None p q =
            let i : refusal at Short ≡ r = cc in
            subst (λ (z : Refusal). Placed seen_field (λ (m : List ℕ). bit_field m at w) l at z) i
            (missing_placed seen_field (λ (m : List ℕ). bit_field m at w) l at h
            (λ (k : ℕ) (a : at ≤ k) (b : k ≤ length l). ap seen_field (short_cut l at w k b p)))

    go : (x : Reading ℕ) → bit_field l at w ≡ x → Sound seen_field (λ (m : List ℕ). bit_field m at w) l at
    go (Ok (v, n)) e =
        let i = bits_are l at w v n e in
        let p = i.place in
        went_sound seen_field (λ (m : List ℕ). bit_field m at w) l at n (ap seen_field e)
        (record { after = omega arith; within = i.within; same = λ (m : List ℕ) (a : Alike n l m). bits_alike l m at w n (omega arith) i.within a })
    go (Err r) e = placed_sound seen_field (λ (m : List ℕ). bit_field m at w) l at r (ap seen_field e) (missing r e)

-- A field that is read and then judged: its fault is at its own place. In bits that end inside it, it is missing.
module _ (f : List ℕ → Reading ℕ) (g : ℕ → ℕ → Reading ℕ) (ok : ℕ → Bool) (val : ℕ → ℕ) (why : Fault) (l : List ℕ) (at : ℕ) (h : at ≤ length l) (s : Sound seen_field f l at)
    (right : (v n : ℕ) → ok v ≡ true → g v n ≡ Ok (val v, n)) (wrong : (v n : ℕ) → ok v ≡ false → g v n ≡ refused_at at why)
    (faulty : why ≡ Short → ⊥) (wide : (v n : ℕ) → f l ≡ Ok (v, n) → ok v ≡ false → at < n) (cut : (v n : ℕ) → f l ≡ Ok (v, n) → (k : ℕ) → at ≤ k → k < n → k ≤ length l → f (take k l) ≡ refused_at at Short) where
  judging : List ℕ → Reading ℕ
  judging m = then (f m) g

  module _ (v n : ℕ) (e : f l ≡ Ok (v, n)) where
    was_read : Went f l at n
    was_read = s.next n (ap seen_field e)

    judged_as : (o : Reading ℕ) → g v n ≡ o → judging l ≡ o
    unfolding judging
    judged_as o p = ap (λ (x : Reading ℕ). then x g) e ∙ p

    judged_same : (m : List ℕ) → Alike n l m → judging m ≡ judging l
    unfolding judging
    judged_same m a = ap (λ (x : Reading ℕ). then x g) (was_read.same m a)

    judged_cut : (k : ℕ) → at ≤ k → k < n → judging (take k l) ≡ refused_at at Short
    unfolding judging
    judged_cut k a b = let w = was_read.within in ap (λ (x : Reading ℕ). then x g) (cut v n e k a b (omega arith))

    by : (t : Bool) → ok v ≡ t → Sound seen_field judging l at
    by true p = went_sound seen_field judging l at n (ap seen_field (judged_as (Ok (val v, n)) (right v n p))) (record { after = was_read.after; within = was_read.within; same = judged_same })
    by false p =
        placed_sound seen_field judging l at (refusal at why) (ap seen_field (judged_as (refused_at at why) (wrong v n p)))
        (faulty_placed seen_field judging l at n why faulty (wide v n e p) was_read.within judged_same
        (λ (k : ℕ) (a : at ≤ k) (b : k < n) (w : k ≤ length l). ap seen_field (judged_cut k a b)))

  judge : (x : Reading ℕ) → f l ≡ x → Sound seen_field judging l at
  unfolding judging
  judge (Ok (v, n)) e = by v n e (ok v) refl
  judge (Err r) e = then_sound f (λ (v n : ℕ) (m : List ℕ). g v n) l at s
      (λ (v n : ℕ) (p : f l ≡ Ok (v, n)) (a : at ≤ n) (b : n ≤ length l). never (cc))

  pub judged : Sound seen_field (λ (m : List ℕ). then (f m) g) l at
  unfolding judging
  judged = judge (f l) refl

pub extension_sound : (l : List ℕ) (at : ℕ) → at ≤ length l → Sound seen_field (λ (m : List ℕ). extension_bit m at) l at
unfolding extension_bit
extension_sound l at h =
    judged (λ (m : List ℕ). bit_field m at 1) (λ (b n : ℕ). cond (eqb b 0) (Ok (0, n)) (refused_at at Extension))
    (λ (b : ℕ). eqb b 0) (λ (b : ℕ). 0) Extension l at h (bit_sound l at 1 h)
    (λ (v n : ℕ) (p : eqb v 0 ≡ true). ap (λ (t : Bool). cond {A = Reading ℕ} t (Ok (0, n)) (refused_at at Extension)) p)
    (λ (v n : ℕ) (p : eqb v 0 ≡ false). ap (λ (t : Bool). cond {A = Reading ℕ} t (Ok (0, n)) (refused_at at Extension)) p)
    (λ (t : Extension ≡ Short). never (cc))
    (λ (v n : ℕ) (e : bit_field l at 1 ≡ Ok (v, n)) (p : eqb v 0 ≡ false). let q = (bits_are l at 1 v n e).place in omega arith)
    (field_cut l at 1)

-- an extension bit is one bit
pub extension_place : (l : List ℕ) (at b n : ℕ) → extension_bit l at ≡ Ok (b, n) → n ≡ at + 1
unfolding extension_bit
extension_place l at b n e = go (bit_field l at 1) refl e
  where
    go : (x : Reading ℕ) → bit_field l at 1 ≡ x
        → then {A = ℕ} {B = ℕ × ℕ} x (λ (v k : ℕ). cond (eqb v 0) (Ok (0, k)) (refused_at at Extension)) ≡ Ok (b, n) → n ≡ at + 1
    go (Err r) p q = never (cc)
    go (Ok (v, k)) p q = by (eqb v 0) q
      where
        by : (t : Bool) → cond {A = Reading ℕ} t (Ok (0, k)) (refused_at at Extension) ≡ Ok (b, n) → n ≡ at + 1
        by true u = let z : k ≡ n = ok_place u in sym z ∙ (bits_are l at 1 v k p).place
        by false u = never (cc)

-- no bits say 0
no_bits : num_of [] ≡ 0
unfolding bits_n
no_bits = num_bits_n 0 0

-- a whole number of a range that has one at least
pub whole_sound : (l : List ℕ) (at lo hi : ℕ) → lo ≤ hi → at ≤ length l → Sound seen_field (λ (m : List ℕ). whole_number m at lo hi) l at
unfolding whole_number
whole_sound l at lo hi ranged h =
    judged (λ (m : List ℕ). bit_field m at (width_of (hi - lo)))
    (λ (d n : ℕ). cond (leb (lo + d) hi) (Ok (lo + d, n)) (refused_at at Range)) (λ (d : ℕ). leb (lo + d) hi)
    (λ (d : ℕ). lo + d) Range l at h
    (bit_sound l at (width_of (hi - lo)) h)
    (λ (v n : ℕ) (p : leb (lo + v) hi ≡ true). ap (λ (t : Bool). cond {A = Reading ℕ} t (Ok (lo + v, n)) (refused_at at Range)) p)
    (λ (v n : ℕ) (p : leb (lo + v) hi ≡ false). ap (λ (t : Bool). cond {A = Reading ℕ} t (Ok (lo + v, n)) (refused_at at Range)) p)
    (λ (t : Range ≡ Short). never (cc))
    (λ (v n : ℕ) (e : bit_field l at (width_of (hi - lo)) ≡ Ok (v, n)) (p : leb (lo + v) hi ≡ false). some (width_of (hi - lo)) v n e p)
    (field_cut l at (width_of (hi - lo)))
  where
    some : (w v n : ℕ) → bit_field l at w ≡ Ok (v, n) → leb (lo + v) hi ≡ false → at < n
    some zero v n e p =
        let z : v ≡ 0 = (bits_are l at zero v n e).value ∙ no_bits in
        let y : hi < lo + v = leb-false (lo + v) hi p in
        absurd (omega arith)
    some (suc w) v n e p = let q = (bits_are l at (suc w) v n e).place in omega arith

-- a whole number takes the bits of its range
pub whole_place : (l : List ℕ) (at lo hi v n : ℕ) → whole_number l at lo hi ≡ Ok (v, n) → n ≡ at + width_of (hi - lo)
unfolding whole_number
whole_place l at lo hi v n e = go (bit_field l at (width_of (hi - lo))) refl e
  where
    go : (x : Reading ℕ) → bit_field l at (width_of (hi - lo)) ≡ x
        → then {A = ℕ} {B = ℕ × ℕ} x (λ (d k : ℕ). cond (leb (lo + d) hi) (Ok (lo + d, k)) (refused_at at Range)) ≡ Ok (v, n)
        → n ≡ at + width_of (hi - lo)
    go (Err r) p q = never (cc)
    go (Ok (d, k)) p q = by (leb (lo + d) hi) q
      where
        by : (t : Bool) → cond {A = Reading ℕ} t (Ok (lo + d, k)) (refused_at at Range) ≡ Ok (v, n) → n ≡ at + width_of (hi - lo)
        by true u = let z : k ≡ n = ok_place u in sym z ∙ (bits_are l at (width_of (hi - lo)) d k p).place
        by false u = never (cc)

-- and is missing in bits that end inside it
pub whole_cut : (l : List ℕ) (at lo hi v n : ℕ) → whole_number l at lo hi ≡ Ok (v, n) → (k : ℕ) → at ≤ k → k < n
    → k ≤ length l → whole_number (take k l) at lo hi ≡ refused_at at Short
unfolding whole_number
whole_cut l at lo hi v n e k a b h =
    let p = whole_place l at lo hi v n e in
    ap (λ (x : Reading ℕ). then x (λ (d j : ℕ). cond (leb (lo + d) hi) (Ok (lo + d, j)) (refused_at at Range)))
    (bits_cut l at (width_of (hi - lo)) k h (omega arith))

pub index_sound : (l : List ℕ) (at last : ℕ) → at ≤ length l → Sound seen_field (λ (m : List ℕ). extensible_index m at last) l at
unfolding extensible_index
index_sound l at last h =
    then_sound (λ (m : List ℕ). extension_bit m at) (λ (b n : ℕ) (m : List ℕ). whole_number m n 0 last) l at (extension_sound l at h)
    (λ (b n : ℕ) (e : extension_bit l at ≡ Ok (b, n)) (a : at ≤ n) (w : n ≤ length l). whole_sound l n 0 last (omega arith) w)

-- a length: 8 bits, or 16 from the same place on
module _ (l : List ℕ) (at : ℕ) (h : at ≤ length l) where
  reads : List ℕ → Reading ℕ
  reads m = length_at m at

  -- without its first eight bits it is missing
  first_missing : (m : List ℕ) → bit_field m at 8 ≡ refused_at at Short → reads m ≡ refused_at at Short
  unfolding reads length_at
  first_missing m e = ap (λ (x : Reading ℕ). then x (length_from m at)) e

  -- in bits that end before n it is missing
  Cut : ℕ → Type 0
  Cut n = (k : ℕ) → at ≤ k → k < n → k ≤ length l → reads (take k l) ≡ refused_at at Short

  first_cut : Cut (at + 8)
  unfolding Cut
  first_cut k a b w = first_missing (take k l) (bits_cut l at 8 k w b)

  -- it is decided by the bits up to n
  decided : (n : ℕ) → at + 8 ≤ n → n ≤ length l
      → ((m : List ℕ) → Alike n l m → then (bit_field l at 8) (length_from m at) ≡ then (bit_field l at 8) (length_from l at))
      → (m : List ℕ) → Alike n l m → reads m ≡ reads l
  unfolding reads length_at
  decided n a w s m q = ap (λ (x : Reading ℕ). then x (length_from m at)) (bits_alike l m at 8 n a w q) ∙ s m q

  misformed : (n : ℕ) → reads l ≡ refused_at at LengthForm → at + 8 ≤ n → n ≤ length l
      → ((m : List ℕ) → Alike n l m → reads m ≡ reads l) → Cut n → Sound seen_field reads l at
  unfolding Cut
  misformed n e a w s c =
      placed_sound seen_field reads l at (refusal at LengthForm) (ap seen_field e)
      (faulty_placed seen_field reads l at n LengthForm (λ (t : LengthForm ≡ Short). never (cc)) (omega arith) w s
      (λ (k : ℕ) (i : at ≤ k) (j : k < n) (u : k ≤ length l). ap seen_field (c k i j u)))

  answers : (v n : ℕ) → reads l ≡ Ok (v, n) → at + 8 ≤ n → n ≤ length l
      → ((m : List ℕ) → Alike n l m → reads m ≡ reads l) → Sound seen_field reads l at
  answers v n e a w s = went_sound seen_field reads l at n (ap seen_field e) (record { after = omega arith; within = w; same = s })

  missing : reads l ≡ refused_at at Short → ((k : ℕ) → k ≤ length l → reads (take k l) ≡ refused_at at Short) → Sound seen_field reads l at
  missing e c =
      placed_sound seen_field reads l at (refusal at Short) (ap seen_field e)
      (missing_placed seen_field reads l at h (λ (k : ℕ) (a : at ≤ k) (b : k ≤ length l). ap seen_field (c k b)))

  module _ (b n : ℕ) (e : bit_field l at 8 ≡ Ok (b, n)) where
    eight : BitsAre l at 8 b n
    eight = bits_are l at 8 b n e

    -- the first eight bits, then what they lead to
    leads : (m : List ℕ) → then (bit_field l at 8) (length_from m at) ≡ length_from m at b n
    leads m = ap (λ (x : Reading ℕ). then x (length_from m at)) e

    told : (o : Reading ℕ) → length_from l at b n ≡ o → reads l ≡ o
    unfolding reads length_at
    told o p = leads l ∙ p

    module _ (p : ltb b 128 ≡ false) (q : leb 192 b ≡ false) where
      from : (m : List ℕ) → length_from m at b n ≡ then (bit_field m at 16) (long_length at)
      from m = rw (p, q)

      -- without its sixteen bits it is missing
      long_missing : (k : ℕ) → k ≤ length l → bit_field (take k l) at 16 ≡ refused_at at Short → reads (take k l) ≡ refused_at at Short
      unfolding reads length_at
      long_missing k w f =
          elim (dec_lt k (at + 8)) [
            | yes g ↦ first_missing (take k l) (bits_cut l at 8 k w g)
            | no g ↦
                let z = eight.place in
                ap (λ (x : Reading ℕ). then x (length_from (take k l) at))
                (bits_alike l (take k l) at 8 n (omega arith) eight.within (alike_cut n k l (omega arith) w) ∙ e)
                ∙ from (take k l) ∙ ap (λ (x : Reading ℕ). then x (long_length at)) f
          ]

      long_cut : Cut (at + 16)
      unfolding Cut
      long_cut k a c w = long_missing k w (bits_cut l at 16 k w c)

      module _ (v k : ℕ) (f : bit_field l at 16 ≡ Ok (v, k)) where
        sixteen : BitsAre l at 16 v k
        sixteen = bits_are l at 16 v k f

        both_same : (m : List ℕ) → Alike k l m → reads m ≡ reads l
        both_same m a =
            let c = sixteen.place in
            decided k (omega arith) sixteen.within
            (λ (y : List ℕ) (u : Alike k l y). leads y ∙ from y ∙ ap (λ (x : Reading ℕ). then x (long_length at))
            (bits_alike l y at 16 k (omega arith) sixteen.within u) ∙ sym (from l) ∙ sym (leads l)) m a

        said : (o : Reading ℕ) → long_length at v k ≡ o → reads l ≡ o
        said o r = told o (from l ∙ ap (λ (x : Reading ℕ). then x (long_length at)) f ∙ r)

        long : (t : Bool) → ltb v (32768 + 128) ≡ t → Sound seen_field reads l at
        long true r = let c = sixteen.place in misformed k (said (refused_at at LengthForm) (rw r)) (omega arith)
            sixteen.within both_same (subst Cut (sym c) long_cut)
        long false r = let c = sixteen.place in answers (v - 32768) k (said (Ok (v - 32768, k)) (rw r)) (omega arith)
            sixteen.within both_same

      sixteen_read : (x : Reading ℕ) → bit_field l at 16 ≡ x → Sound seen_field reads l at
      sixteen_read (Ok (v, k)) f = long v k f (ltb v (32768 + 128)) refl
      sixteen_read (Err r) f =
          missing (told (refused_at at Short)
          (from l ∙ ap (λ (x : Reading ℕ). then x (long_length at)) (f ∙ ap Err (short_only l at 16 r f))))
          (λ (k : ℕ) (w : k ≤ length l). long_missing k w (field_short l at 16 r f k w))

    first_same : (o : Reading ℕ) → ((m : List ℕ) → length_from m at b n ≡ o) → (m : List ℕ) → Alike n l m → reads m ≡ reads l
    first_same o c m a =
        let z = eight.place in
        decided n (omega arith) eight.within (λ (y : List ℕ) (u : Alike n l y). leads y ∙ c y ∙ sym (leads l ∙ c l)) m a

    large : ltb b 128 ≡ false → (t : Bool) → leb 192 b ≡ t → Sound seen_field reads l at
    large p true q =
        let z = eight.place in
        misformed n (told (refused_at at LengthForm) (rw (p, q))) (omega arith) eight.within
        (first_same (refused_at at LengthForm) (λ (m : List ℕ). rw (p, q))) (subst Cut (sym z) first_cut)
    large p false q = sixteen_read p q (bit_field l at 16) refl

    small : (t : Bool) → ltb b 128 ≡ t → Sound seen_field reads l at
    small true p =
        let z = eight.place in
        answers b n (told (Ok (b, n)) (rw p)) (omega arith) eight.within (first_same (Ok (b, n)) (λ (m : List ℕ). rw p))
    small false p = large p (leb 192 b) refl

    -- a length that was read
    value_cut : (u : Reading ℕ) → length_from l at b n ≡ u → (v j : ℕ) → u ≡ Ok (v, j) → Cut j
    value_cut u f v j g = by (ltb b 128) refl (f ∙ g)
      where
        place : (k : ℕ) → n ≡ k → Cut k
        place k z = subst Cut (sym eight.place ∙ z) first_cut

        by : (t : Bool) → ltb b 128 ≡ t → length_from l at b n ≡ Ok (v, j) → Cut j
        by true p w = let z : ◌≡◌ {A = Reading ℕ} (Ok (b, n)) (Ok (v, j)) = sym (rw p) ∙ w in place j (ok_place z)
        by false p w = on (leb 192 b) refl w
          where
            on : (t : Bool) → leb 192 b ≡ t → length_from l at b n ≡ Ok (v, j) → Cut j
            on true q w = let z : ◌≡◌ {A = Reading ℕ} (refused_at at LengthForm) (Ok (v, j)) = sym (rw (p, q)) ∙ w in never (cc)
            on false q w = last (bit_field l at 16) refl (sym (from p q l) ∙ w)
              where
                last : (x : Reading ℕ) → bit_field l at 16 ≡ x → then x (long_length at) ≡ Ok (v, j) → Cut j
                last (Err r) i y = never (cc)
                last (Ok (c, k)) i y = which (ltb c (32768 + 128)) y
                  where
                    which : (t : Bool) → cond {A = Reading ℕ} t (refused_at at LengthForm) (Ok (c - 32768, k)) ≡ Ok (v, j) → Cut j
                    which true y = never (cc)
                    which false y = let z : k ≡ j = ok_place y in subst Cut (sym (sixteen p q c k i).place ∙ z) (long_cut p q)

  eight_read : (x : Reading ℕ) → bit_field l at 8 ≡ x → Sound seen_field reads l at
  unfolding reads length_at
  eight_read (Ok (b, n)) e = small b n e (ltb b 128) refl
  eight_read (Err r) e = missing (first_missing l (e ∙ ap Err (short_only l at 8 r e)))
      (λ (k : ℕ) (w : k ≤ length l). first_missing (take k l) (field_short l at 8 r e k w))

  pub length_sound : Sound seen_field (λ (m : List ℕ). length_at m at) l at
  unfolding reads
  length_sound = eight_read (bit_field l at 8) refl

  pub length_cut : (v n : ℕ) → length_at l at ≡ Ok (v, n) → (k : ℕ) → at ≤ k → k < n → k ≤ length l
      → length_at (take k l) at ≡ refused_at at Short
  unfolding reads length_at Cut
  length_cut v n e = by (bit_field l at 8) refl e
    where
      by : (x : Reading ℕ) → bit_field l at 8 ≡ x → then x (length_from l at) ≡ Ok (v, n) → Cut n
      by (Err r) p q = never (cc)
      by (Ok (b, j)) p q = value_cut b j p (length_from l at b j) refl v n q

  pub length_wide : (v n : ℕ) → length_at l at ≡ Ok (v, n) → at < n
  unfolding reads length_at Cut
  length_wide v n e =
      let w = length_sound.next n (ap seen_field e) in
      elim (dec_lt at n) [
        | yes g ↦ g
        | no g ↦
            let a = w.after in
            let c : length_at (take at l) at ≡ length_at l at = w.same (take at l) (alike_cut n at l (omega arith) h) in
            let z : ◌≡◌ {A = Reading ℕ} (refused_at at Short) (Ok (v, n)) = sym (first_cut at (omega arith) (omega arith) h) ∙ c ∙ e in
            never (cc)
      ]

-- a length that is judged by its limits
pub within_sound : (l : List ℕ) (at least most : ℕ) → at ≤ length l → Sound seen_field (λ (m : List ℕ). length_within m at least most) l at
unfolding length_within reads
within_sound l at least most h =
    judged (λ (m : List ℕ). length_at m at)
    (λ (n next : ℕ). cond (leb least n && leb n most) (Ok (n, next)) (refused_at at Limit))
    (λ (n : ℕ). leb least n && leb n most) (λ (n : ℕ). n) Limit l at h
    (length_sound l at h)
    (λ (v n : ℕ) (p : leb least v && leb v most ≡ true). ap (λ (t : Bool). cond {A = Reading ℕ} t (Ok (v, n)) (refused_at at Limit)) p)
    (λ (v n : ℕ) (p : leb least v && leb v most ≡ false). ap (λ (t : Bool). cond {A = Reading ℕ} t (Ok (v, n)) (refused_at at Limit)) p)
    (λ (t : Limit ≡ Short). never (cc))
    (λ (v n : ℕ) (e : length_at l at ≡ Ok (v, n)) (p : leb least v && leb v most ≡ false). length_wide l at h v n e)
    (length_cut l at h)

pub run_sound : (l : List ℕ) (at count n : ℕ) → at ≤ length l → Sound seen_field (λ (m : List ℕ). run_at m at count n) l at
unfolding run_at
run_sound l at count n h = go (leb (at + count) (length l)) refl
  where
    go : (t : Bool) → leb (at + count) (length l) ≡ t → Sound seen_field (λ (m : List ℕ). run_at m at count n) l at
    go true p =
        let w = leb-true _ _ p in
        went_sound seen_field (λ (m : List ℕ). run_at m at count n) l at (at + count)
        (ap (λ (t : Bool). seen_field (cond t (Ok (n, at + count)) (refused_at at Short))) p)
        (record { after = omega arith; within = w; same = λ (m : List ℕ) (a : Alike (at + count) l m). rw (le-leb _ _ a.long, p) })
    go false p =
        let w : length l < at + count = leb-false _ _ p in
        placed_sound seen_field (λ (m : List ℕ). run_at m at count n) l at (refusal at Short)
        (ap (λ (t : Bool). seen_field (cond t (Ok (n, at + count)) (refused_at at Short))) p)
        (missing_placed seen_field (λ (m : List ℕ). run_at m at count n) l at h
        (λ (k : ℕ) (a : at ≤ k) (b : k ≤ length l). let z : length (take k l) ≡ k = length-take-le k l b in rw
        (lt-leb (at + count) (length (take k l)) (omega arith))))

pub string_sound : (l : List ℕ) (at unit least most : ℕ) → at ≤ length l
    → Sound seen_field (λ (m : List ℕ). string_at m at unit least most) l at
unfolding string_at
string_sound l at unit least most h =
    then_sound (λ (m : List ℕ). length_within m at least most) (λ (n from : ℕ) (m : List ℕ). contents_at m from unit n)
    l at (within_sound l at least most h)
    (λ (n from : ℕ) (e : length_within l at least most ≡ Ok (n, from)) (a : at ≤ from) (b : from ≤ length l). run_sound
    l from (unit * n) n b)

pub sized_sound : (l : List ℕ) (at unit least most : ℕ) → least ≤ most → at ≤ length l
    → Sound seen_field (λ (m : List ℕ). sized_at m at unit least most) l at
unfolding sized_at
sized_sound l at unit least most ranged h =
    then_sound (λ (m : List ℕ). whole_number m at least most) (λ (n from : ℕ) (m : List ℕ). contents_at m from unit n) l
    at (whole_sound l at least most ranged h)
    (λ (n from : ℕ) (e : whole_number l at least most ≡ Ok (n, from)) (a : at ≤ from) (b : from ≤ length l). run_sound l from (unit * n) n b)

-- ---- additions from a later edition

-- the count: seven bits, of which the first alone says whether it is the short form
module _ (l : List ℕ) (at : ℕ) (h : at ≤ length l) where
  counts : List ℕ → Reading ℕ
  counts m = addition_count m at

  module _ (b n : ℕ) (e : extension_bit l at ≡ Ok (b, n)) where
    short_form : Went (λ (m : List ℕ). extension_bit m at) l at n
    short_form = (extension_sound l at h).next n (ap seen_field e)

    seven : (m : List ℕ) → extension_bit m at ≡ extension_bit l at → counts m ≡ then (bit_field m at 7) (λ (v next : ℕ). Ok (v + 1, next))
    unfolding counts addition_count
    seven m q = ap (λ (x : Reading ℕ). then x (λ (c p : ℕ). then (bit_field m at 7) (λ (v next : ℕ). Ok (v + 1, next)))) (q ∙ e)

    -- in bits that end inside the seven it is missing
    seven_missing : (r : Refusal) → bit_field l at 7 ≡ Err r → (k : ℕ) → k ≤ length l → counts (take k l) ≡ refused_at at Short
    unfolding counts addition_count extension_bit
    seven_missing r f k w =
        elim (dec_lt k (at + 1)) [
          | yes g ↦ rw (bits_cut l at 1 k w g)
          | no g ↦
              let q : n ≡ at + 1 = extension_place l at b n e in
              seven (take k l) (short_form.same (take k l) (alike_cut n k l (omega arith) w)) ∙ ap
              (λ (x : Reading ℕ). then x (λ (v next : ℕ). Ok (v + 1, next))) (field_short l at 7 r f k w)
        ]

    counted : (x : Reading ℕ) → bit_field l at 7 ≡ x → Sound seen_field counts l at
    counted (Ok (v, k)) f =
        let i = bits_are l at 7 v k f in
        let p = i.place in
        let q : n ≡ at + 1 = extension_place l at b n e in
        went_sound seen_field counts l at k (ap seen_field (seven l refl ∙ ap (λ (x : Reading ℕ). then x (λ (w next : ℕ). Ok (w + 1, next))) f))
        (record {
          after = omega arith;
          within = i.within;
          same = λ (m : List ℕ) (a : Alike k l m).
              seven m (short_form.same m (alike_less n k l m (omega arith) a)) ∙ ap
              (λ (x : Reading ℕ). then x (λ (w next : ℕ). Ok (w + 1, next)))
              (bits_alike l m at 7 k (omega arith) i.within a) ∙ sym (seven l refl);
        })
    counted (Err r) f =
        let z : r ≡ refusal at Short = short_only l at 7 r f in
        placed_sound seen_field counts l at (refusal at Short) (ap seen_field
        (seven l refl ∙ ap (λ (x : Reading ℕ). then x (λ (w next : ℕ). Ok (w + 1, next))) (f ∙ ap Err z)))
        (missing_placed seen_field counts l at h (λ (k : ℕ) (a : at ≤ k) (w : k ≤ length l). ap seen_field (seven_missing r f k w)))

  form_read : (x : Reading ℕ) → extension_bit l at ≡ x → Sound seen_field counts l at
  unfolding counts addition_count
  form_read (Ok (b, n)) e = counted b n e (bit_field l at 7) refl
  form_read (Err r) e =
      then_sound (λ (m : List ℕ). extension_bit m at)
      (λ (b n : ℕ) (m : List ℕ). then (bit_field m at 7) (λ (v next : ℕ). Ok (v + 1, next))) l at
      (extension_sound l at h)
      (λ (b n : ℕ) (p : extension_bit l at ≡ Ok (b, n)) (a : at ≤ n) (w : n ≤ length l). never (cc))

  pub count_sound : Sound seen_field (λ (m : List ℕ). addition_count m at) l at
  unfolding counts
  count_sound = form_read (extension_bit l at) refl

-- a count is never none
count_some : (l : List ℕ) (at n next : ℕ) → addition_count l at ≡ Ok (n, next) → 0 < n
unfolding addition_count
count_some l at n next e = first (extension_bit l at) e
  where
    second : (x : Reading ℕ) → then {A = ℕ} {B = ℕ × ℕ} x (λ (v k : ℕ). Ok (v + 1, k)) ≡ Ok (n, next) → 0 < n
    second (Ok (v, k)) q = let z : v + 1 ≡ n = ok_value q in omega arith
    second (Err r) q = never (cc)

    first : (x : Reading ℕ) → then {A = ℕ} {B = ℕ × ℕ} x (λ (b p : ℕ). then (bit_field l at 7) (λ (v k : ℕ). Ok (v + 1, k))) ≡ Ok (n, next) → 0 < n
    first (Ok (b, p)) q = second (bit_field l at 7) q
    first (Err r) q = never (cc)

pub there_sound : (l : List ℕ) (at n : ℕ) → 0 < n → at ≤ length l → Sound seen_field (λ (m : List ℕ). additions_there m at n) l at
unfolding additions_there
there_sound l at n pos h =
    judged (λ (m : List ℕ). bit_field m at n) (λ (v next : ℕ). cond (eqb v 0) (refused_at at Extension) (Ok (v, next)))
    (λ (v : ℕ). not (eqb v 0)) (λ (v : ℕ). v) Extension l at h (bit_sound l at n h)
    (λ (v k : ℕ) (p : not (eqb v 0) ≡ true). by true v k (eqb v 0) p)
    (λ (v k : ℕ) (p : not (eqb v 0) ≡ false). by false v k (eqb v 0) p)
    (λ (t : Extension ≡ Short). never (cc))
    (λ (v k : ℕ) (e : bit_field l at n ≡ Ok (v, k)) (p : not (eqb v 0) ≡ false). let q = (bits_are l at n v k e).place in omega arith)
    (field_cut l at n)
  where
    by : (t : Bool) (v k : ℕ) (z : Bool) → not z ≡ t
        → cond {A = Reading ℕ} z (refused_at at Extension) (Ok (v, k)) ≡ cond {A = Reading ℕ} t (Ok (v, k)) (refused_at at Extension)
    by true v k true p = never (cc)
    by true v k false p = refl
    by false v k true p = refl
    by false v k false p = never (cc)

pub addition_sound : (l : List ℕ) (at : ℕ) → at ≤ length l → Sound seen_field (λ (m : List ℕ). addition_at m at) l at
unfolding addition_at
addition_sound l at h =
    then_sound (λ (m : List ℕ). length_at m at) (λ (n from : ℕ) (m : List ℕ). contents_at m from 8 n) l at (length_sound l at h)
    (λ (n from : ℕ) (e : length_at l at ≡ Ok (n, from)) (a : at ≤ from) (b : from ≤ length l). run_sound l from (8 * n) n b)

pub stepped_sound : (l : List ℕ) (k at : ℕ) → at ≤ length l → Sound seen_field (λ (m : List ℕ). stepped_over m at k) l at
unfolding stepped_over
stepped_sound l zero at h = sound_value seen_field (Ok (0, at)) l at h refl
stepped_sound l (suc k) at h =
    then_sound (λ (m : List ℕ). addition_at m at) (λ (n next : ℕ) (m : List ℕ). stepped_over m next k) l at (addition_sound l at h)
    (λ (n next : ℕ) (e : addition_at l at ≡ Ok (n, next)) (a : at ≤ next) (b : next ≤ length l). stepped_sound l k next b)

pub additions_sound : (l : List ℕ) (at : ℕ) → at ≤ length l → Sound seen_field (λ (m : List ℕ). additions_at m at) l at
unfolding additions_at
additions_sound l at h =
    then_sound (λ (m : List ℕ). addition_count m at)
    (λ (n p : ℕ) (m : List ℕ). then (additions_there m p n) (λ (v q : ℕ). stepped_over m q (ones v))) l at
    (count_sound l at h)
    (λ (n p : ℕ) (e : addition_count l at ≡ Ok (n, p)) (a : at ≤ p) (b : p ≤ length l).
    then_sound (λ (m : List ℕ). additions_there m p n) (λ (v q : ℕ) (m : List ℕ). stepped_over m q (ones v)) l p
    (there_sound l p n (count_some l at n p e) b)
    (λ (v q : ℕ) (f : additions_there l p n ≡ Ok (v, q)) (c : p ≤ q) (d : q ≤ length l). stepped_sound l (ones v) q d))
