-- The carrier fails: where the tables answer 0, they follow the model.
-- Assumes nothing.
use mathlib.Core.Path.{◌≡◌, refl, ap, sym, subst, fun_ext, ◌∙◌}
use mathlib.Core.Bool.{Bool, true, false, not, cond, ◌&&◌, ◌||◌}
use mathlib.Core.List.{List, [], ◌∷◌}
use Prim.Native.Nat.{ℕ, zero, suc, ◌+◌, ◌≤◌, ◌<◌}
use native.Mathlib.Omega.{arith}
use borrow.Author.Tests.{eqb-true, eqb-false}
use lib.Dec.{eqb}
use lib.ListN.{get_or, set, length-set}
use Rattle.pair.specs.Names.{Side, other, is_idle, closed}
use Rattle.pair.specs.Carrier.{Body}
use Rattle.pair.specs.Numbered.{Numbered, starter, on_line}
use Rattle.pair.proofs.ControlMachine.{Held}
use Rattle.duties.specs.Memory.{Decision, tells, told_broken}
use Rattle.duties.specs.Host.{right, Power, up, carrier_fails, rejoins}
use Rattle.duties.proofs.EndConfirmed.{answers_yes}
use Rattle.duties.proofs.ControlHosts.{letters}
use Rattle.moves.specs.declared.Held.{Held as Holds}
use Rattle.moves.specs.Machine.{holding as record_of}
use Rattle.moves_laws.specs.Pages.{Beside}
use Rattle.moves_laws.proofs.Steps.{M, Page, page}
use Rattle.moves_laws.proofs.Failures.{lost_of, fail_lands}
use Rattle.tables.specs.Tables.{Leaves, left, and_then, held_in, holding, entry_in, told, mark_broken, mark_on, marked_line}
use Rattle.tables.specs.Steps.{One, All, one, all, as_rule, closed_in, lost, marked_alive, rejoined, lost_too, on_lost, on_there, on_here, carrier_failed}
use Rattle.tables.specs.Steps as steps
use Rattle.tables.proofs.Tables.{get_same, get_other, held_back}
use Rattle.tables_laws.proofs.Reading.{power_of, line_from, line_of, notes_of, page_of, broken_of, Sound, Counted}
use Rattle.tables_laws.proofs.Places.{Same, same_then, same_below, same_above}
use Rattle.tables_laws.proofs.Effects.{never, held_same, hold_same}
use Rattle.tables_laws.proofs.Follow.{upon, first_rule_is, roomy, page_path, notes_stay, decided_stays, low_sound, low_line, low_notes, tells_all, move_of, one_act, as_pages, Follows}
use Rattle.tables_laws.proofs.HostMoves.{idle_is, number_is}
use Rattle.tables_laws.proofs.Lines.{held_sound}
use Rattle.tables_laws.proofs.Cuts.{breaks_one}

abbrev rule1 : One → ℕ
rule1 o = o.rule

abbrev rule3 : All → ℕ
rule3 o = o.rule

-- ---- the dialogues that break

or_turn : (a b c : Bool) → (a || (b || c)) ≡ ((b || a) || c)
or_turn true true c = refl
or_turn true false c = refl
or_turn false true c = refl
or_turn false false c = refl

five_or : (a b c d e : Bool) → ((a || b) || ((c || d) || e)) ≡ ((d || (b || (c || a))) || e)
five_or true true true true e = refl
five_or true true true false e = refl
five_or true true false true e = refl
five_or true true false false e = refl
five_or true false true true e = refl
five_or true false true false e = refl
five_or true false false true e = refl
five_or true false false false e = refl
five_or false true true true e = refl
five_or false true true false e = refl
five_or false true false true e = refl
five_or false true false false e = refl
five_or false false true true e = refl
five_or false false true false e = refl
five_or false false false true e = refl
five_or false false false false e = refl

-- f: which dialogues are meant
pub record Marks (b m : List ℕ) (f : ℕ → Bool) : Type 0 where
  pub counted : Counted m
  pub broken : (j : ℕ) → broken_of m j ≡ (f j || broken_of b j)

module _ (text : Side → ℕ → Body) (sd : Side) (l : List ℕ) where
  mark_turns : (k : ℕ) (b : List ℕ) (i : ℕ) → Counted b → (mark_on k b l i).answer ≡ true
      → Marks b (mark_on k b l i).page (on_line M (line_from text sd l k i))
  unfolding mark_on
  mark_turns zero b i c h = record { counted = c; broken = λ (j : ℕ). refl }
  mark_turns (suc k) b i c h = go (mark_broken b (entry_in l i 1)).answer refl (mark_turns k (mark_broken b (entry_in l i 1)).page (i + 1)) h
    where
      x : Leaves
      x = mark_broken b (entry_in l i 1)

      go : (a : Bool) → x.answer ≡ a
          → (Counted x.page → (mark_on k x.page l (i + 1)).answer ≡ true → Marks x.page
          (mark_on k x.page l (i + 1)).page (on_line M (line_from text sd l k (i + 1))))
          → (cond a (mark_on k x.page l (i + 1)) (left false x.page)).answer ≡ true
          → Marks b (cond a (mark_on k x.page l (i + 1)) (left false x.page)).page (on_line M (line_from text sd l (suc k) i))
      go false e f w = never w
      go true e f w =
          let a = breaks_one b (entry_in l i 1) c e in
          let n = f a.counted w in
          let q : i + 1 ≡ suc i = omega arith in
          record {
            counted = n.counted;
            broken = λ (j : ℕ). n.broken j
                ∙ ap (λ (v : ℕ). on_line M (line_from text sd l k v) j || broken_of x.page j) q
                ∙ ap (λ (v : Bool). on_line M (line_from text sd l k (suc i)) j || v) (a.broken j)
                ∙ or_turn (on_line M (line_from text sd l k (suc i)) j) (eqb (entry_in l i 1) j) (broken_of b j);
          }

  mark_line : (b : List ℕ) → Counted b → (marked_line b l).answer ≡ true → Marks b (marked_line b l).page (on_line M (line_of text sd l))
  unfolding marked_line
  mark_line b c h = mark_turns (get_or l 7 0) b 0 c h

  -- an end that is in a dialogue, and its line
  abbrev pub alive_in : ℕ → Bool
  alive_in j = on_line M (line_of text sd l) j

  abbrev pub busy_in : Bool → ℕ → Bool
  busy_in i j = not i && eqb (get_or l 2 0) j

  mark_by : (b : List ℕ) (i : Bool) → Counted b
      → (cond i (marked_line b l) (and_then (mark_broken b (get_or l 2 0)) (λ (c : List ℕ). marked_line c l))).answer ≡ true
      → Marks b (cond i (marked_line b l) (and_then (mark_broken b (get_or l 2 0)) (λ (c : List ℕ). marked_line c l))).page
      (λ (j : ℕ). alive_in j || busy_in i j)
  mark_by b true c h =
      let a = mark_line b c h in
      record { counted = a.counted; broken = λ (j : ℕ). a.broken j ∙ ap (λ (v : Bool). v || broken_of b j) (sym (or_none (alive_in j))) }
    where
      or_none : (v : Bool) → (v || false) ≡ v
      or_none true = refl
      or_none false = refl
  mark_by b false c h = go (mark_broken b (get_or l 2 0)).answer refl h
    where
      x : Leaves
      x = mark_broken b (get_or l 2 0)

      or_shift : (a b c : Bool) → (a || (b || c)) ≡ ((a || b) || c)
      or_shift true b c = refl
      or_shift false b c = refl

      go : (a : Bool) → x.answer ≡ a → (cond a (marked_line x.page l) (left false x.page)).answer ≡ true
          → Marks b (cond a (marked_line x.page l) (left false x.page)).page (λ (j : ℕ). alive_in j || busy_in false j)
      go false e w = never w
      go true e w =
          let a = breaks_one b (get_or l 2 0) c e in
          let n = mark_line x.page a.counted w in
          record {
            counted = n.counted;
            broken = λ (j : ℕ). n.broken j ∙ ap (λ (v : Bool). alive_in j || v) (a.broken j) ∙ or_shift (alive_in j)
                (eqb (get_or l 2 0) j) (broken_of b j);
          }

  pub mark_alive : (b : List ℕ) → Counted b → (marked_alive b l).answer ≡ true
      → Marks b (marked_alive b l).page (λ (j : ℕ). alive_in j || busy_in (steps.is_idle l) j)
  unfolding marked_alive
  mark_alive b c h = mark_by b (steps.is_idle l) c h

busy_is : (text : Side → ℕ → Body) (sd : Side) (l : List ℕ) (j : ℕ)
    → busy_in text sd l (steps.is_idle l) j ≡ (not (is_idle (held_in l).control) && eqb (held_in l).number j)
busy_is text sd l j = ap (λ (v : Bool). not v && eqb (get_or l 2 0) j) (sym (idle_is l)) ∙ ap
    (λ (v : ℕ). not (is_idle (held_in l).control) && eqb v j) (sym (number_is l))

-- ---- one end hears of it

pub record Closes (d : ℕ → Decision) (x c : List ℕ) (i : Bool) : Type 0 where
  pub high : Same x c 4 53264
  pub held : held_in c ≡ lost_of i (held_in x)
  pub sound : Sound d c

closes_by : (d : ℕ → Decision) (x : List ℕ) (i : Bool) → Sound d x
    → Closes d x (cond i x (holding x (record_of closed (held_in x).number (held_in x).highest))) i
closes_by d x true s = record { high = λ (n : ℕ) (u : 4 ≤ n) (v : n < 53264). refl; held = refl; sound = s }
closes_by d x false s =
    let r : Holds = record_of closed (held_in x).number (held_in x).highest in
    record { high = hold_same x r 53264; held = held_back x r (omega (arith, s.full)); sound = held_sound d x r s }

closes : (d : ℕ → Decision) (x : List ℕ) → Sound d x → Closes d x (closed_in x) (steps.is_idle x)
unfolding closed_in
closes d x s = closes_by d x (steps.is_idle x) s

pub record Loses (text : Side → ℕ → Body) (sd : Side) (d : ℕ → Decision) (l m : List ℕ) : Type 0 where
  pub page_is : page_of text sd d m ≡ page (lost_of (is_idle (held_in l).control) (held_in l)) []
      (tells told_broken (notes_of text d l)) 0 (not (eqb (get_or l 5 0) 0)) (power_of (get_or l 4 0))
  pub sound : Sound d m

module _ (text : Side → ℕ → Body) (sd : Side) (d : ℕ → Decision) (l : List ℕ) (s : Sound d l) where
  abbrev x₁ : List ℕ
  x₁ = set (set l 7 0) 6 0

  low₁ : Same l x₁ 0 6
  low₁ i u v = same_below (set l 7 0) 6 0 0 i u v ∙ same_below l 7 0 0 i u (omega (arith, v))

  high₁ : Same l x₁ 8 53264
  high₁ = same_then l (set l 7 0) x₁ 8 53264 (same_above l 7 0 8 53264 (omega arith)) (same_above (set l 7 0) 6 0 8 53264 (omega arith))

  none₁ : get_or x₁ 7 0 ≡ 0
  none₁ = get_other (set l 7 0) 6 7 0 (λ (w : 7 ≡ 6). omega (arith, w)) ∙ get_same l 7 0 (omega (arith, s.full))

  unsent₁ : get_or x₁ 6 0 ≡ 0
  unsent₁ = get_same (set l 7 0) 6 0 (omega (arith, s.full, length-set l 7 0))

  sound₁ : Sound d x₁
  sound₁ =
      let g4 = low₁ 4 (omega arith) (omega arith) in
      let g5 = low₁ 5 (omega arith) (omega arith) in
      let g8 = high₁ 8 (omega arith) (omega arith) in
      let g9 = high₁ 9 (omega arith) (omega arith) in
      let g10 = high₁ 10 (omega arith) (omega arith) in
      record {
        full = omega (arith, s.full, length-set l 7 0, length-set (set l 7 0) 6 0);
        entries = omega (arith, none₁);
        decided = omega (arith, g8, s.decided);
        opened = omega (arith, g9, s.opened);
        notices = omega (arith, g10, s.notices);
        known = λ (j : ℕ). s.known j ∙ sym (decided_stays d l x₁ s
            (λ (i : ℕ) (u : 8 ≤ i) (v : i < 9). high₁ i u (omega (arith, v)))
            (λ (i : ℕ) (u : 3088 ≤ i) (v : i < 19472). high₁ i (omega (arith, u)) (omega (arith, v))) j);
        powered = omega (arith, g4, s.powered);
        rests = λ (w : get_or x₁ 4 0 ≡ 2). g5 ∙ s.rests (sym g4 ∙ w);
      }

  pub loses : (lost l).rule ≡ 0 → Loses text sd d l (lost l).here
  unfolding lost
  loses h =
      let c : List ℕ = closed_in x₁ in
      let a = closes d x₁ sound₁ in
      let o = tells_all text sd d c 3 a.sound (roomy (told c 3).answer h) in
      let m : List ℕ = (told c 3).page in
      let hx : held_in x₁ ≡ held_in l = held_same l x₁ (λ (i : ℕ) (u : 0 ≤ i) (v : i < 4). low₁ i u (omega (arith, v))) in
      let lists : Same x₁ c 7 53264 = λ (i : ℕ) (u : 7 ≤ i) (v : i < 53264). a.high i (omega (arith, u)) v in
      record {
        page_is =
            page_path
            (held_same c m (λ (i : ℕ) (u : 0 ≤ i) (v : i < 4). o.low i u (omega (arith, v))) ∙ a.held ∙ ap
            (λ (i : Bool). lost_of i (held_in x₁)) (sym (idle_is x₁)) ∙ ap
            (λ (r : Holds). lost_of (is_idle r.control) r) hx)
            (o.line ∙ low_line d x₁ c sound₁ text sd lists ∙ ap (λ (n : ℕ). line_from text sd x₁ n 0) none₁)
            (o.notes ∙ ap (tells told_broken) (low_notes d x₁ c sound₁ text lists ∙ notes_stay d l x₁ s text
            (λ (i : ℕ) (u : 9 ≤ i) (v : i < 11). high₁ i (omega (arith, u)) (omega (arith, v)))
            (λ (i : ℕ) (u : 19472 ≤ i) (v : i < 53264). high₁ i (omega (arith, u)) v)))
            (o.low 6 (omega arith) (omega arith) ∙ a.high 6 (omega arith) (omega arith) ∙ unsent₁)
            (ap (λ (v : ℕ). not (eqb v 0)) (o.low 5 (omega arith) (omega arith) ∙ a.high 5 (omega arith)
            (omega arith) ∙ low₁ 5 (omega arith) (omega arith)))
            (ap power_of (o.low 4 (omega arith) (omega arith) ∙ a.high 4 (omega arith) (omega arith) ∙ low₁ 4
            (omega arith) (omega arith)));
        sound = o.sound;
      }

-- ---- it is up again, if it has power

pub record Rejoins (text : Side → ℕ → Body) (sd : Side) (d : ℕ → Decision) (l m : List ℕ) (q : Power) : Type 0 where
  pub held : held_in m ≡ held_in l
  pub notes : notes_of text d m ≡ notes_of text d l
  pub waiting : get_or m 5 0 ≡ get_or l 5 0
  pub power : power_of (get_or m 4 0) ≡ q
  pub sound : Sound d m

up_again : (text : Side → ℕ → Body) (sd : Side) (d : ℕ → Decision) (l : List ℕ) → Sound d l → Rejoins text sd d l (set l 4 0) up
up_again text sd d l s =
    let m : List ℕ = set l 4 0 in
    let lists : Same l m 7 53264 = same_above l 4 0 7 53264 (omega arith) in
    let g4 : get_or m 4 0 ≡ 0 = get_same l 4 0 (omega (arith, s.full)) in
    record {
      held = held_same l m (same_below l 4 0 0);
      notes = low_notes d l m s text lists;
      waiting = get_other l 4 5 0 (λ (w : 5 ≡ 4). omega (arith, w));
      power = ap power_of g4;
      sound = low_sound d l m s lists (length-set l 4 0) (omega (arith, g4)) (λ (w : get_or m 4 0 ≡ 2). absurd (omega (arith, w, g4)));
    }

module _ (text : Side → ℕ → Body) (fresh : Side → Numbered Held) where
  abbrev again : Power → Power
  again = rejoins M right (letters text) fresh answers_yes

  rejoins_by : (sd : Side) (d : ℕ → Decision) (l : List ℕ) → Sound d l → (c : Bool) → eqb (get_or l 4 0) 1 ≡ c
      → Rejoins text sd d l (cond c (set l 4 0) l) (again (power_of (get_or l 4 0)))
  rejoins_by sd d l s true e =
      subst (λ (q : Power). Rejoins text sd d l (set l 4 0) q)
      (sym (ap (λ (v : ℕ). again (power_of v)) (eqb-true (get_or l 4 0) 1 e))) (up_again text sd d l s)
  rejoins_by sd d l s false e = record { held = refl; notes = refl; waiting = refl; power = go (get_or l 4 0) e; sound = s }
    where
      go : (x : ℕ) → eqb x 1 ≡ false → power_of x ≡ again (power_of x)
      go zero w = refl
      go (suc zero) w = absurd (eqb-false 1 1 w refl)
      go (suc (suc n)) w = refl

  rejoined_is : (sd : Side) (d : ℕ → Decision) (l : List ℕ) → Sound d l → Rejoins text sd d l (rejoined l) (again (power_of (get_or l 4 0)))
  unfolding rejoined
  rejoined_is sd d l s = rejoins_by sd d l s (eqb (get_or l 4 0) 1) refl

  -- the page of an end that lost its line, by the page before
  lost_page : (sd : Side) (d : ℕ → Decision) (l m n : List ℕ) (q : Power) → Rejoins text sd d l m q → Loses text sd d m n
      → page_of text sd d n ≡ page (lost_of (is_idle (held_in l).control) (held_in l)) []
      (tells told_broken (notes_of text d l)) 0 (not (eqb (get_or l 5 0) 0)) q
  lost_page sd d l m n q a o =
      o.page_is ∙ page_path (ap (λ (r : Holds). lost_of (is_idle r.control) r) a.held) refl
      (ap (tells told_broken) a.notes) refl (ap (λ (v : ℕ). not (eqb v 0)) a.waiting) a.power

  pub failed_follows : (from : Side) (sd : Side) (d e : ℕ → Decision) (l z b : List ℕ) → Sound d l → Sound e z
      → Counted b → (carrier_failed l z b).rule ≡ 0
      → Follows text fresh from sd d e l z b (carrier_failed l z b).here (carrier_failed l z b).there (carrier_failed l z b).broken
  unfolding carrier_failed
  failed_follows from sd d e l z b s t k h =
      let w1 : Leaves = marked_alive b l in
      let w2 : Leaves = marked_alive w1.page z in
      let c : List ℕ = w2.page in
      let o1 : One = lost (set l 4 0) in
      let o2 : One = lost (rejoined z) in
      let a1 = upon rule3 w1.answer (on_there w2 l z) (all 23 l z w1.page) (λ (v : 23 ≡ 0). omega (arith, v)) h in
      let a2 = upon rule3 w2.answer (on_lost o1 (rejoined z) c) (all 23 l z c) (λ (v : 23 ≡ 0). omega (arith, v))
      (ap rule3 (sym a1.1) ∙ h) in
      let a3 = first_rule_is rule3 o1.rule (lost_too o2 o1.here c) (all o1.rule o1.here (rejoined z) c) refl
      (ap rule3 (sym (a1.1 ∙ a2.1)) ∙ h) in
      let q = a1.1 ∙ a2.1 ∙ a3.1 in
      let m1 = mark_alive text sd l b k a1.0 in
      let m2 = mark_alive text (other sd) z w1.page m1.counted a2.0 in
      let j1 = up_again text sd d l s in
      let j2 = rejoined_is (other sd) e z t in
      let n1 = loses text sd d (set l 4 0) j1.sound a3.0 in
      let n2 = loses text (other sd) e (rejoined z) j2.sound (ap rule3 (sym q) ∙ h) in
      let p1 : Page = page (lost_of (is_idle (held_in l).control) (held_in l)) [] (tells told_broken (notes_of text d l)) 0
      (not (eqb (get_or l 5 0) 0)) up in
      let p2 : Page = page (lost_of (is_idle (held_in z).control) (held_in z)) [] (tells told_broken (notes_of text e z)) 0
      (not (eqb (get_or z 5 0) 0)) (again (power_of (get_or z 4 0))) in
      let cr : ℕ → Bool = λ (j : ℕ). ((not (is_idle (held_in l).control) && eqb (held_in l).number j) || (
      (not (is_idle (held_in z).control) && eqb (held_in z).number j) ||
      (on_line M (line_of text sd l) j || on_line M (line_of text (other sd) z) j))) || broken_of b j in
      subst (λ (o : All). Follows text fresh from sd d e l z b o.here o.there o.broken) (sym q)
      record {
        moves = move_of text fresh from sd carrier_fails ∷ [];
        then = d;
        near = n1.sound;
        far = n2.sound;
        counted = m2.counted;
        makes =
            as_pages text fresh from sd (move_of text fresh from sd carrier_fails ∷ []) (page_of text sd d l)
            (page_of text sd d l) (page_of text (other sd) e z) (page_of text (other sd) e z)
            (page_of text sd d o1.here) p1 (page_of text (other sd) e o2.here) p2 (broken_of b) (broken_of c) cr
            refl refl (lost_page sd d l (set l 4 0) o1.here up j1 n1)
            (lost_page (other sd) e z (rejoined z) o2.here (again (power_of (get_or z 4 0))) j2 n2)
            (fun_ext (λ (j : ℕ). m2.broken j
            ∙ ap (λ (v : Bool). (on_line M (line_of text (other sd) z) j || busy_in text (other sd) z (steps.is_idle z) j) || v) (m1.broken j)
            ∙ five_or (on_line M (line_of text (other sd) z) j) (busy_in text (other sd) z (steps.is_idle z) j)
            (on_line M (line_of text sd l) j) (busy_in text sd l (steps.is_idle l) j) (broken_of b j)
            ∙ ap (λ (v : Bool). (v || (busy_in text (other sd) z (steps.is_idle z) j ||
            (on_line M (line_of text sd l) j || on_line M (line_of text (other sd) z) j))) || broken_of b j)
            (busy_is text sd l j)
            ∙ ap (λ (v : Bool). ((not (is_idle (held_in l).control) && eqb (held_in l).number j) ||
            (v || (on_line M (line_of text sd l) j || on_line M (line_of text (other sd) z) j))) || broken_of b j)
            (busy_is text (other sd) z j)))
            (one_act text fresh from sd carrier_fails (page_of text sd d l) (page_of text (other sd) e z) p1 p2 (broken_of b) cr
            (λ (g i : Beside). fail_lands text fresh (starter from sd) sd (held_in l) (line_of text sd l)
            (notes_of text d l) (get_or l 6 0) (not (eqb (get_or l 5 0) 0)) (held_in z) (line_of text (other sd) z)
            (notes_of text e z) (get_or z 6 0) (not (eqb (get_or z 5 0) 0)) (power_of (get_or z 4 0)) (broken_of b) g i
            (power_of (get_or l 4 0))));
      }
