-- The carrier turns a start away: where the tables answer 0, they follow the model.
-- Assumes nothing.
use mathlib.Core.Path.{◌≡◌, refl, ap, sym, subst, ◌∙◌}
use mathlib.Core.Bool.{Bool, true, false, not, cond, ◌&&◌, ◌||◌}
use mathlib.Core.List.{List, [], ◌∷◌, ◌++◌}
use Prim.Native.Nat.{ℕ, zero, suc, ◌+◌, ◌-◌, ◌*◌, ◌≤◌, ◌<◌}
use native.Mathlib.Omega.{arith}
use borrow.Author.Tests.{eqb-true, lt-leb, leb-false, le-ltb}
use lib.Dec.{eqb, leb, ltb}
use lib.ListN.{get_or, set, length-set}
use Rattle.pair.specs.Names.{Side, other, Control, DTurnedAway, StartReq, is}
use Rattle.pair.specs.Carrier.{Body, nothing, acts, turn_away}
use Rattle.pair.specs.Numbered.{Numbered, starter, start_of, n_has_start, n_without_start}
use Rattle.pair.proofs.ControlMachine.{Held, Ent}
use Rattle.pair.proofs.NumberedLines.{self}
use Rattle.duties.specs.Memory.{Decision, Notes, tells, told_broken}
use Rattle.duties.specs.Host.{up, happens, release}
use Rattle.moves.specs.declared.Held.{Held as Holds}
use Rattle.moves.specs.declared.Done.{Done}
use Rattle.moves.specs.declared.Done.TheVariants.{Quiet, Shows, Aborts}
use Rattle.moves.specs.Machine.{is_opening, is_data, met_by, received_of, holding as record_of}
use Rattle.moves_laws.specs.Pages.{Beside}
use Rattle.moves_laws.proofs.Machine.{rec_of, arrival_done, met_is}
use Rattle.moves_laws.proofs.Steps.{M, Page, page, sends_lands}
use Rattle.moves_laws.proofs.Failures.{turned_lands}
use Rattle.tables.specs.Tables.{state_of, held_in, holding, entry_in, is_start_of, start_on, start_in, draw_on, removed, told}
use Rattle.tables.specs.Steps.{One, one, ready_rule, primitive_of, turned_to, turn_done, turned_back}
use Rattle.tables.proofs.Tables.{get_same}
use Rattle.tables_laws.proofs.Reading.{power_of, entry_at, line_from, line_of, notes_of, page_of, broken_of, Sound, Counted}
use Rattle.tables_laws.proofs.Places.{Same, same_below, same_above, line_fields}
use Rattle.tables_laws.proofs.Effects.{line_within}
use Rattle.tables_laws.proofs.Follow.{past, upon, first_rule_is, page_path, notes_stay, decided_stays, move_of, one_act, more_acts, as_pages, Follows}
use Rattle.tables_laws.proofs.HostMoves.{up_power}
use Rattle.tables_laws.proofs.Lines.{ready_is}
use Rattle.tables_laws.proofs.JobMoves.{ready_page}
use Rattle.tables_laws.proofs.Removes.{Drawn, draws}
use Rattle.tables_laws.proofs.HearMoves.{begins_is, and_cond, met_cases, quiet_by}
use Rattle.std.specs.Prelude.{None, Option, Some}

abbrev rule : One → ℕ
rule o = o.rule

-- ---- the start on the line

opens_any : (x : ℕ) → is_opening (primitive_of x) ≡ ltb x 2
opens_any zero = refl
opens_any (suc zero) = refl
opens_any (suc (suc zero)) = refl
opens_any (suc (suc (suc zero))) = refl
opens_any (suc (suc (suc (suc zero)))) = refl
opens_any (suc (suc (suc (suc (suc zero))))) = refl
opens_any (suc (suc (suc (suc (suc (suc zero)))))) = refl
opens_any (suc (suc (suc (suc (suc (suc (suc zero))))))) = refl
opens_any (suc (suc (suc (suc (suc (suc (suc (suc n)))))))) = sym (le-ltb (suc (suc (suc (suc (suc (suc (suc (suc n)))))))) 2 (omega arith))

module _ (text : Side → ℕ → Body) (sd : Side) where
  start_is : (l : List ℕ) (v i : ℕ) → start_of M v (entry_at text sd l i) ≡ is_start_of l i v
  start_is l v i =
      ap (λ (b : Bool). b && eqb (entry_in l i 1) v) (begins_is (primitive_of (entry_in l i 0)) ∙ opens_any (entry_in l i 0))
      ∙ and_cond (ltb (entry_in l i 0) 2) (eqb (entry_in l i 1) v)

  line_split : (l : List ℕ) (k j i : ℕ) → line_from text sd l (k + j) i ≡ line_from text sd l k i ++ line_from text sd l j (i + k)
  line_split l zero j i =
      let a : 0 + j ≡ j = omega arith in
      let c : i ≡ i + 0 = omega arith in
      ap (λ (n : ℕ). line_from text sd l n i) a ∙ ap (line_from text sd l j) c
  line_split l (suc k) j i =
      let a : suc k + j ≡ suc (k + j) = omega arith in
      let c : suc i + k ≡ i + suc k = omega arith in
      ap (λ (n : ℕ). line_from text sd l n i) a
      ∙ ap (λ (t : List (Numbered Ent)). entry_at text sd l i ∷ t)
      (line_split l k j (suc i) ∙ ap (λ (n : ℕ). line_from text sd l k (suc i) ++ line_from text sd l j n) c)

  record FoundAt (l : List ℕ) (v k i at : ℕ) : Type 0 where
    low : i ≤ at
    has : n_has_start M v (line_from text sd l k i) ≡ true
    without : n_without_start M v (line_from text sd l k i) ≡ line_from text sd l (at - i) i ++ line_from text sd l (i + k - at - 1) (at + 1)

  found_here : (l : List ℕ) (v k i : ℕ) → is_start_of l i v ≡ true → FoundAt l v (suc k) i i
  found_here l v k i h =
      let e = start_is l v i ∙ h in
      let a : i - i ≡ 0 = omega arith in
      let c : i + suc k - i - 1 ≡ k = omega arith in
      let j : i + 1 ≡ suc i = omega arith in
      record {
        low = omega arith;
        has = ap (λ (b : Bool). b || n_has_start M v (line_from text sd l k (suc i))) e;
        without =
            ap (λ (b : Bool). cond b (line_from text sd l k (suc i))
            (entry_at text sd l i ∷ n_without_start M v (line_from text sd l k (suc i)))) e
            ∙ sym (ap (λ (n : ℕ). line_from text sd l n i ++ line_from text sd l (i + suc k - i - 1) (i + 1)) a ∙ ap
            (λ (n : ℕ). line_from text sd l n (i + 1)) c ∙ ap (line_from text sd l k) j);
      }

  found_later : (l : List ℕ) (v k i at : ℕ) → is_start_of l i v ≡ false → FoundAt l v k (i + 1) at → FoundAt l v (suc k) i at
  found_later l v k i at h f =
      let e = start_is l v i ∙ h in
      let j : suc i ≡ i + 1 = omega arith in
      let lo = f.low in
      let a : suc (at - (i + 1)) ≡ at - i = omega (arith, lo) in
      let c : i + 1 + k - at - 1 ≡ i + suc k - at - 1 = omega arith in
      record {
        low = omega (arith, lo);
        has = ap (λ (b : Bool). b || n_has_start M v (line_from text sd l k (suc i))) e ∙ ap
            (λ (n : ℕ). n_has_start M v (line_from text sd l k n)) j ∙ f.has;
        without =
            ap (λ (b : Bool). cond b (line_from text sd l k (suc i))
            (entry_at text sd l i ∷ n_without_start M v (line_from text sd l k (suc i)))) e
            ∙ ap (λ (t : List (Numbered Ent)). entry_at text sd l i ∷ t)
            (ap (λ (n : ℕ). n_without_start M v (line_from text sd l k n)) j ∙ f.without ∙ ap (λ (n : ℕ). line_from text
            sd l (at - (i + 1)) n ++ line_from text sd l (i + 1 + k - at - 1) (at + 1)) (sym j))
            ∙ ap (λ (n : ℕ). line_from text sd l n i ++ line_from text sd l (i + 1 + k - at - 1) (at + 1)) a
            ∙ ap (λ (n : ℕ). line_from text sd l (at - i) i ++ line_from text sd l n (at + 1)) c;
      }

  finds : (l : List ℕ) (v k i : ℕ) → start_on k l v i < i + k → FoundAt l v k i (start_on k l v i)
  unfolding start_on
  finds l v zero i h = absurd (omega (arith, h))
  finds l v (suc k) i h = go (is_start_of l i v) refl (finds l v k (i + 1)) h
    where
      go : (c : Bool) → is_start_of l i v ≡ c → (start_on k l v (i + 1) < i + 1 + k → FoundAt l v k (i + 1) (start_on k l v (i + 1)))
          → cond c i (start_on k l v (i + 1)) < i + suc k → FoundAt l v (suc k) i (cond c i (start_on k l v (i + 1)))
      go true c f w = found_here l v k i c
      go false c f w = found_later l v k i (start_on k l v (i + 1)) c (f (omega (arith, w)))

  -- ---- it is removed

  record GoneAt (d : ℕ → Decision) (l m : List ℕ) (at : ℕ) : Type 0 where
    line : line_of text sd m ≡ line_from text sd l at 0 ++ line_from text sd l (get_or l 7 0 - at - 1) (at + 1)
    notes : notes_of text d m ≡ notes_of text d l
    low : Same l m 0 7
    sound : Sound d m

  gone_by : (d : ℕ → Decision) (l : List ℕ) (at : ℕ) → Sound d l → at < get_or l 7 0
      → GoneAt d l (set (draw_on (get_or l 7 0 - at) l at) 7 (get_or l 7 0 - 1)) at
  gone_by d l at s h =
      let n : ℕ = get_or l 7 0 in
      let x : List ℕ = draw_on (n - at) l at in
      let m : List ℕ = set x 7 (n - 1) in
      let en = s.entries in
      let a = draws (n - at) l at s.full (omega (arith, en, h)) in
      let c : get_or m 7 0 ≡ n - 1 = get_same x 7 (n - 1) (omega (arith, s.full, a.size_same)) in
      let q : n - 1 ≡ at + (n - at - 1) = omega (arith, h) in
      let top : (b : ℕ) → Same l m 3088 b = λ (b i : ℕ) (u : 3088 ≤ i) (v : i < b). same_above x 7 (n - 1) 3088 b
      (omega arith) i u v ∙ a.above b i u v in
      let mid : Same l m 8 16 = λ (i : ℕ) (u : 8 ≤ i) (v : i < 16). same_above x 7 (n - 1) 8 16 (omega arith) i u v ∙
      a.before i (omega arith) (omega (arith, v)) in
      let low : Same l m 0 7 = λ (i : ℕ) (u : 0 ≤ i) (v : i < 7). same_below x 7 (n - 1) 0 i u v ∙ a.before i u (omega (arith, v)) in
      let g4 = low 4 (omega arith) (omega arith) in
      let g5 = low 5 (omega arith) (omega arith) in
      let g8 = mid 8 (omega arith) (omega arith) in
      let g9 = mid 9 (omega arith) (omega arith) in
      let g10 = mid 10 (omega arith) (omega arith) in
      record {
        line =
            ap (λ (k : ℕ). line_from text sd m k 0) c
            ∙ line_within text sd x m 8 3088 (same_above x 7 (n - 1) 8 3088 (omega arith)) (n - 1) 0 (omega arith)
            (omega (arith, en)) (omega (arith, en))
            ∙ ap (λ (k : ℕ). line_from text sd x k 0) q
            ∙ line_split x at (n - at - 1) 0
            ∙ ap (λ (t : List (Numbered Ent)). t ++ line_from text sd x (n - at - 1) (0 + at)) (line_within text sd l x
            0 (16 + 3 * at) a.before at 0 (omega arith) (omega arith) (omega (arith, en, h)))
            ∙ ap (λ (t : List (Numbered Ent)). line_from text sd l at 0 ++ t)
            (line_fields text sd l x (n - at - 1) (0 + at) (at + 1) (shifted x a));
        notes = notes_stay d l m s text
            (λ (i : ℕ) (u : 9 ≤ i) (v : i < 11). mid i (omega (arith, u)) (omega (arith, v)))
            (λ (i : ℕ) (u : 19472 ≤ i) (v : i < 53264). top 53264 i (omega (arith, u)) v);
        low = low;
        sound =
            record {
              full = omega (arith, s.full, a.size_same, length-set x 7 (n - 1));
              entries = omega (arith, c, en);
              decided = omega (arith, g8, s.decided);
              opened = omega (arith, g9, s.opened);
              notices = omega (arith, g10, s.notices);
              known = λ (j : ℕ). s.known j ∙ sym (decided_stays d l m s
                  (λ (i : ℕ) (u : 8 ≤ i) (v : i < 9). mid i u (omega (arith, v)))
                  (λ (i : ℕ) (u : 3088 ≤ i) (v : i < 19472). top 19472 i u v) j);
              powered = omega (arith, g4, s.powered);
              rests = λ (w : get_or m 4 0 ≡ 2). g5 ∙ s.rests (sym g4 ∙ w);
            };
      }
    where
      shifted : (x : List ℕ) → Drawn l x (get_or l 7 0 - at) at → (n f : ℕ) → n < get_or l 7 0 - at - 1 → f ≤ 2
          → entry_in x (0 + at + n) f ≡ entry_in l (at + 1 + n) f
      shifted x a n f p g =
          let r : at + n + 1 ≡ at + 1 + n = omega arith in
          let e : 0 + at + n ≡ at + n = omega arith in
          ap (λ (i : ℕ). entry_in x i f) e ∙ a.moved (at + n) f (omega arith) (omega (arith, p)) g ∙ ap (λ (i : ℕ). entry_in l i f) r

  gone_at : (d : ℕ → Decision) (l : List ℕ) (at : ℕ) → Sound d l → at < get_or l 7 0 → GoneAt d l (removed l at) at
  unfolding removed
  gone_at d l at s h =
      subst (λ (b : Bool). GoneAt d l (cond b l (set (draw_on (get_or l 7 0 - at) l at) 7 (get_or l 7 0 - 1))) at)
      (sym (lt-leb (get_or l 7 0) at h)) (gone_by d l at s h)

state_is : (l : List ℕ) → is (held_in l).control.state StartReq ≡ is (state_of (get_or l 0 0)) StartReq
unfolding held_in
state_is l = refl

found_in : (text : Side → ℕ → Body) (sd : Side) (l : List ℕ) (v : ℕ) → start_in l v < get_or l 7 0
    → FoundAt text sd l v (get_or l 7 0) 0 (start_in l v)
unfolding start_in
found_in text sd l v h = finds text sd l v (get_or l 7 0) 0 (omega (arith, h))

module _ (text : Side → ℕ → Body) (fresh : Side → Numbered Held) (from : Side) (sd : Side) (d e : ℕ → Decision) (l z b : List ℕ) (s : Sound d l) (t : Sound e z) (k : Counted b) where
  abbrev far₀ : Page
  far₀ = page_of text (other sd) e z

  abbrev before₀ : Page
  before₀ = page (held_in l) (line_of text sd l) (notes_of text d l) (get_or l 6 0) false up

  abbrev at₀ : ℕ
  at₀ = start_in l (held_in l).number

  turns_follow : (f : Holds) → ready_rule l ≡ 0 → get_or l 0 0 ≡ 1 → at₀ < get_or l 7 0
      → M.at.away sd (rec_of (held_in l)) ≡ acts (rec_of f) [] nothing
      → (turned_to l at₀ f).rule ≡ 0 → Follows text fresh from sd d e l z b (turned_to l at₀ f).here z b
  unfolding turned_to
  turns_follow f ready starting here away h =
      let x : List ℕ = removed l at₀ in
      let n : ℕ = (held_in l).number in
      let g = gone_at text sd d l at₀ s here in
      let w = found_in text sd l n here in
      let o = quiet_by text sd d x f g.sound 3 false h in
      let m : List ℕ = (told (holding x f) 3).page in
      let v = ready_is l ready in
      let line : List (Numbered Ent) = n_without_start M n (line_of text sd l) in
      let notes : Notes = tells told_broken (notes_of text d l) in
      let zero-at : at₀ - 0 ≡ at₀ = omega arith in
      let plus : 0 + get_or l 7 0 - at₀ - 1 ≡ get_or l 7 0 - at₀ - 1 = omega arith in
      let q : line_of text sd x ≡ line = g.line ∙ sym (w.without ∙ ap (λ (i : ℕ). line_from text sd l i 0 ++ line_from text sd l (0 + get_or l 7 0 - at₀ - 1) (at₀ + 1)) zero-at
      ∙ ap (λ (i : ℕ). line_from text sd l at₀ 0 ++ line_from text sd l i (at₀ + 1)) plus) in
      let may : (is (held_in l).control.state StartReq && n_has_start M n (line_of text sd l)) ≡ true =
      ap (λ (i : Bool). i && n_has_start M n (line_of text sd l)) (state_is l ∙ ap (λ (i : ℕ). is (state_of i) StartReq) starting) ∙ w.has in
      let p1 : Page = page f line notes (suc (get_or l 6 0)) false up in
      let p2 : Page = page f line notes (get_or l 6 0) false up in
      record {
        moves = move_of text fresh from sd (happens (turn_away 0)) ∷ (move_of text fresh from sd release ∷ []);
        then = d;
        near = o.sound;
        far = t;
        counted = k;
        makes =
            as_pages text fresh from sd
            (move_of text fresh from sd (happens (turn_away 0)) ∷ (move_of text fresh from sd release ∷ []))
            (page_of text sd d l) before₀ far₀ far₀ (page_of text sd d m) p2 far₀ far₀ (broken_of b) (broken_of b)
            (broken_of b)
            (ready_page text fresh from sd d e l z b s t k ready) refl
            (o.page_is ∙ page_path refl q (ap (tells told_broken) g.notes) (g.low 6 (omega arith) (omega arith))
            (ap (λ (i : ℕ). not (eqb i 0)) (g.low 5 (omega arith) (omega arith)) ∙ ap not v.shown)
            (ap power_of (g.low 4 (omega arith) (omega arith)) ∙ up_power l v.is_up))
            refl refl
            (more_acts text fresh from sd (happens (turn_away 0)) (move_of text fresh from sd release ∷ []) before₀ far₀ p1 far₀ p2 far₀ (broken_of b) (broken_of b) (broken_of b)
            (λ (i j : Beside). turned_lands text fresh (starter from sd) sd (held_in l) (line_of text sd l)
            (notes_of text d l) (get_or l 6 0) far₀ (broken_of b) i j f may away)
            (one_act text fresh from sd release p1 far₀ p2 far₀ (broken_of b) (broken_of b)
            (λ (i j : Beside). sends_lands text fresh (starter from sd) sd f line notes (get_or l 6 0) false far₀ (broken_of b) i j)));
      }

  abbrev Turns : Option Done → Type 0
  Turns x = M.at.away sd (rec_of (held_in l)) ≡ arrival_done [] x → (turn_done l at₀ x).rule ≡ 0 → Follows text fresh from
      sd d e l z b (turn_done l at₀ x).here z b

  module _ (ready : ready_rule l ≡ 0) (starting : get_or l 0 0 ≡ 1) (here : at₀ < get_or l 7 0) where
    turn_quiet : (f : Holds) → Turns (Some (Quiet f))
    unfolding turn_done
    turn_quiet f a h = turns_follow f ready starting here a h

    turn_shows : (f : Holds) → Turns (Some (Shows f))
    unfolding turn_done
    turn_shows f a h = absurd (omega (arith, h))

    turn_aborts : (f : Holds) → Turns (Some (Aborts f))
    unfolding turn_done
    turn_aborts f a h = absurd (omega (arith, h))

    turns_all : Turns (Some (met_by sd (held_in l) DTurnedAway))
    turns_all =
        met_cases sd (held_in l) DTurnedAway Turns
        (λ (c : Control). turn_quiet (record_of c (held_in l).number (held_in l).highest))
        (λ (c : Control) (i : is_data DTurnedAway ≡ true). turn_shows (record_of c (held_in l).number (held_in l).highest))
        (λ (c : Control). turn_aborts (record_of c (held_in l).number (held_in l).highest))

  pub turned_follows : (turned_back l sd).rule ≡ 0 → Follows text fresh from sd d e l z b (turned_back l sd).here z b
  unfolding turned_back
  turned_follows h =
      let n : ℕ = (held_in l).number in
      let o3 : One = turn_done l at₀ (received_of sd (held_in l) DTurnedAway n) in
      let o2 : One = cond (leb (get_or l 7 0) at₀) (one 21 l) o3 in
      let a1 = first_rule_is rule (ready_rule l) (cond (eqb (get_or l 0 0) 1) o2 (one 21 l)) (one (ready_rule l) l) refl h in
      let a2 = upon rule (eqb (get_or l 0 0) 1) o2 (one 21 l) (λ (v : 21 ≡ 0). omega (arith, v)) (ap rule (sym a1.1) ∙ h) in
      let a3 = past rule (leb (get_or l 7 0) at₀) (one 21 l) o3 (λ (v : 21 ≡ 0). omega (arith, v)) (ap rule (sym (a1.1 ∙ a2.1)) ∙ h) in
      let r : received_of sd (held_in l) DTurnedAway n ≡ Some (met_by sd (held_in l) DTurnedAway) = ap
      (λ (v : Bool). cond v (Some (met_by sd (held_in l) DTurnedAway)) None) (self n) in
      let q = a1.1 ∙ a2.1 ∙ a3.1 ∙ ap (turn_done l at₀) r in
      subst (λ (o : One). Follows text fresh from sd d e l z b o.here z b) (sym q)
      (turns_all a1.0 (eqb-true (get_or l 0 0) 1 a2.0) (leb-false (get_or l 7 0) at₀ a3.0)
      (met_is sd (held_in l) DTurnedAway []) (ap rule (sym q) ∙ h))
