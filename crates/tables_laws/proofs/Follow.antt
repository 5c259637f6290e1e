-- What it means that the tables follow the model, and what the changes of a page do to the page of the model that it says.
-- Assumes nothing.
use mathlib.Core.Path.{◌≡◌, refl, ap, sym, subst, ◌∙◌}
use mathlib.Core.Bool.{Bool, true, false, cond}
use mathlib.Core.List.{List, [], ◌∷◌, ◌++◌}
use Prim.Native.Nat.{ℕ, ◌+◌, ◌≤◌, ◌<◌}
use native.Mathlib.Omega.{arith}
use borrow.Author.Tests.{eqb-true, eqb-false}
use lib.Dec.{eqb}
use lib.ListN.{length, get_or}
use Rattle.pair.specs.Names.{Side, Air, Ground, other}
use Rattle.pair.specs.Carrier.{Body}
use Rattle.pair.specs.Numbered.{Numbered, starter}
use Rattle.pair.proofs.ControlMachine.{Held, Ent, Ask}
use Rattle.duties.specs.Memory.{Decision, Notice, Notes, each, tells}
use Rattle.duties.specs.Host.{Power, Act, Move}
use Rattle.duties.proofs.EndConfirmed.{answers_yes}
use Rattle.duties.proofs.ControlHosts.{letters}
use Rattle.moves.specs.declared.Held.{Held as Holds}
use Rattle.moves_laws.specs.Pages.{Beside, Sheet, MakesAll}
use Rattle.moves_laws.proofs.Steps.{M, Page, page, Lands}
use Rattle.tables.specs.Tables.{among, told}
use Rattle.tables_laws.proofs.Reading.{jobs_from, fate_in, notices_from, line_from, line_of, notes_of, page_of, broken_of, Sound, Counted}
use Rattle.tables_laws.proofs.Places.{Same, jobs_same, notices_same, among_same}
use Rattle.tables_laws.proofs.Effects.{line_within, tell_all}

-- ---- a choice that breaks no rule

pub past : {X : Type 0} (rule : X → ℕ) (b : Bool) (x y : X) → (rule x ≡ 0 → ⊥) → rule (cond b x y) ≡ 0 → (b ≡ false) × (cond b x y ≡ y)
past rule true x y n w = absurd (n w)
past rule false x y n w = (refl, refl)

pub upon : {X : Type 0} (rule : X → ℕ) (b : Bool) (x y : X) → (rule y ≡ 0 → ⊥) → rule (cond b x y) ≡ 0 → (b ≡ true) × (cond b x y ≡ x)
upon rule true x y n w = (refl, refl)
upon rule false x y n w = absurd (n w)

-- the first rule that is asked
pub first_rule_is : {X : Type 0} (rule : X → ℕ) (n : ℕ) (x y : X) → rule y ≡ n → rule (cond (eqb n 0) x y) ≡ 0 → (n ≡ 0) × (cond (eqb n 0) x y ≡ x)
first_rule_is {X} rule n x y e w = go (eqb n 0) refl w
  where
    go : (c : Bool) → eqb n 0 ≡ c → rule (cond c x y) ≡ 0 → (n ≡ 0) × (cond c x y ≡ x)
    go true c v = (eqb-true n 0 c, refl)
    go false c v = absurd (eqb-false n 0 c (sym e ∙ v))

pub roomy : (b : Bool) → ◌≡◌ {A = ℕ} (cond b 0 23) 0 → b ≡ true
roomy true w = refl
roomy false w = absurd (omega (arith, w))

-- ---- pages

pub page_path : {r r' : Holds} {t t' : List (Numbered Ent)} {n n' : Notes} {u u' : ℕ} {w w' : Bool} {p p' : Power}
    → r ≡ r' → t ≡ t' → n ≡ n' → u ≡ u' → w ≡ w' → p ≡ p' → page r t n u w p ≡ page r' t' n' u' w' p'
page_path {r} {r'} {t} {t'} {n} {n'} {u} {u'} {w} {w'} {p} {p'} a b c d e f =
    ap (λ (x : Holds). page x t n u w p) a
    ∙ ap (λ (x : List (Numbered Ent)). page r' x n u w p) b
    ∙ ap (λ (x : Notes). page r' t' x u w p) c
    ∙ ap (λ (x : ℕ). page r' t' n' x w p) d
    ∙ ap (λ (x : Bool). page r' t' n' u' x p) e
    ∙ ap (λ (x : Power). page r' t' n' u' w' x) f

pub notes_path : {d : ℕ → Decision} {o o' : List ℕ} {n n' : List Notice} → o ≡ o' → n ≡ n'
    → ◌≡◌ {A = Notes} (record { decision = d; opened = o; notices = n }) (record { decision = d; opened = o'; notices = n' })
notes_path {d} {o} {o'} {n} {n'} a b =
    ap (λ (x : List ℕ). record { decision = d; opened = x; notices = n }) a
    ∙ ap (λ (x : List Notice). record { decision = d; opened = o'; notices = x }) b

-- ---- parts of a page that did not change

module _ (d : ℕ → Decision) (l m : List ℕ) (s : Sound d l) where
  pub line_stays : (text : Side → ℕ → Body) (sd : Side) → Same l m 7 8 → Same l m 16 3088 → line_of text sd m ≡ line_of text sd l
  line_stays text sd a b =
      ap (λ (k : ℕ). line_from text sd m k 0) (a 7 (omega arith) (omega arith))
      ∙ line_within text sd l m 16 3088 b (get_or l 7 0) 0 (omega arith) (omega (arith, s.entries)) (omega (arith, s.entries))

  pub notes_stay : (text : Side → ℕ → Body) → Same l m 9 11 → Same l m 19472 53264 → notes_of text d m ≡ notes_of text d l
  notes_stay text a b =
      notes_path
      (ap (λ (k : ℕ). jobs_from m k 19472) (a 9 (omega arith) (omega arith))
      ∙ jobs_same l m 19472 53264 b (get_or l 9 0) 19472 (omega arith) (omega (arith, s.opened)))
      (ap (λ (k : ℕ). notices_from m k 20496) (a 10 (omega arith) (omega arith))
      ∙ notices_same l m 19472 53264 b (get_or l 10 0) 20496 (omega arith) (omega (arith, s.notices)))

  pub decided_stays : Same l m 8 9 → Same l m 3088 19472 → (j : ℕ) → among m 3088 (get_or m 8 0) j ≡ among l 3088 (get_or l 8 0) j
  decided_stays a b j =
      ap (λ (k : ℕ). among m 3088 k j) (a 8 (omega arith) (omega arith))
      ∙ among_same l m 3088 j (get_or l 8 0) (λ (i : ℕ) (u : 3088 ≤ i) (v : i < 3088 + get_or l 8 0). b i u (omega (arith, v, s.decided)))

  -- only what stands before the lists changed
  pub low_sound : Same l m 7 53264 → length m ≡ length l → get_or m 4 0 ≤ 2 → (get_or m 4 0 ≡ 2 → get_or m 5 0 ≡ 0) → Sound d m
  low_sound a e p r =
      let x7 = a 7 (omega arith) (omega arith) in
      let x8 = a 8 (omega arith) (omega arith) in
      let x9 = a 9 (omega arith) (omega arith) in
      let x10 = a 10 (omega arith) (omega arith) in
      record {
        full = omega (arith, e, s.full);
        entries = omega (arith, x7, s.entries);
        decided = omega (arith, x8, s.decided);
        opened = omega (arith, x9, s.opened);
        notices = omega (arith, x10, s.notices);
        known = λ (j : ℕ). s.known j ∙ sym (decided_stays (λ (i : ℕ) (u : 8 ≤ i) (v : i < 9). a i (omega (arith, u)) (omega (arith, v)))
            (λ (i : ℕ) (u : 3088 ≤ i) (v : i < 19472). a i (omega (arith, u)) (omega (arith, v))) j);
        powered = p;
        rests = r;
      }

  pub low_line : (text : Side → ℕ → Body) (sd : Side) → Same l m 7 53264 → line_of text sd m ≡ line_of text sd l
  low_line text sd a =
      line_stays text sd (λ (i : ℕ) (u : 7 ≤ i) (v : i < 8). a i u (omega (arith, v)))
      (λ (i : ℕ) (u : 16 ≤ i) (v : i < 3088). a i (omega (arith, u)) (omega (arith, v)))

  pub low_notes : (text : Side → ℕ → Body) → Same l m 7 53264 → notes_of text d m ≡ notes_of text d l
  low_notes text a =
      notes_stay text (λ (i : ℕ) (u : 9 ≤ i) (v : i < 11). a i (omega (arith, u)) (omega (arith, v)))
      (λ (i : ℕ) (u : 19472 ≤ i) (v : i < 53264). a i (omega (arith, u)) v)

-- ---- the open jobs were told

pub record TellsAll (text : Side → ℕ → Body) (sd : Side) (d : ℕ → Decision) (l m : List ℕ) (fate : ℕ) : Type 0 where
  pub notes : notes_of text d m ≡ tells (fate_in fate) (notes_of text d l)
  pub line : line_of text sd m ≡ line_of text sd l
  pub low : Same l m 0 9
  pub sound : Sound d m

pub tells_all : (text : Side → ℕ → Body) (sd : Side) (d : ℕ → Decision) (l : List ℕ) (fate : ℕ) → Sound d l → (told l fate).answer ≡ true
    → TellsAll text sd d l (told l fate).page fate
tells_all text sd d l fate s w =
    let m : List ℕ = (told l fate).page in
    let t = tell_all l fate s.full s.opened s.notices w in
    let z : 19472 + 0 ≡ 19472 = omega arith in
    let y7 = t.below 7 (omega arith) (omega arith) in
    let y8 = t.below 8 (omega arith) (omega arith) in
    let y4 = t.below 4 (omega arith) (omega arith) in
    let y5 = t.below 5 (omega arith) (omega arith) in
    record {
      notes =
          notes_path (ap (λ (k : ℕ). jobs_from m k 19472) t.none_open)
          (t.notices ∙ ap (λ (k : ℕ). notices_from l (get_or l 10 0) 20496 ++ each (fate_in fate) (jobs_from l (get_or l 9 0) k)) z);
      line = line_stays d l m s text sd (λ (i : ℕ) (u : 7 ≤ i) (v : i < 8). t.below i (omega arith) (omega (arith, v)))
          (λ (i : ℕ) (u : 16 ≤ i) (v : i < 3088). t.between i (omega (arith, u)) (omega (arith, v)));
      low = t.below;
      sound =
          record {
            full = omega (arith, t.size_same, s.full);
            entries = omega (arith, y7, s.entries);
            decided = omega (arith, y8, s.decided);
            opened = omega (arith, t.none_open);
            notices = t.room;
            known = λ (j : ℕ). s.known j ∙ sym (decided_stays d l m s (λ (i : ℕ) (u : 8 ≤ i) (v : i < 9). t.below i (omega arith) v)
                (λ (i : ℕ) (u : 3088 ≤ i) (v : i < 19472). t.between i (omega (arith, u)) (omega (arith, v))) j);
            powered = omega (arith, y4, s.powered);
            rests = λ (e : get_or m 4 0 ≡ 2). y5 ∙ s.rests (sym y4 ∙ e);
          };
    }

-- ---- what a move leaves

module _ (text : Side → ℕ → Body) (fresh : Side → Numbered Held) (from : Side) where
  -- the sheet on which the end of this side comes first
  abbrev pub sheet_of : Side → Page → Page → (ℕ → Bool) → Sheet M
  sheet_of Air p z br = record { air = p; ground = z; broken = br }
  sheet_of Ground p z br = record { air = z; ground = p; broken = br }

  abbrev pub move_of : Side → Act (Numbered Ask) → Move (Numbered Ask)
  move_of sd a = record { side = sd; act = a }

  abbrev pub Lands1 : Side → Page → Page → (ℕ → Bool) → Act (Numbered Ask) → Page → Page → (ℕ → Bool) → Type 0
  Lands1 sd p z br a q y cr = (g k : Beside) → Lands text fresh (starter from sd) sd p z br a q y cr g k

  abbrev pub Made : Side → List (Move (Numbered Ask)) → Page → Page → (ℕ → Bool) → Page → Page → (ℕ → Bool) → Type 0
  Made sd vs p z br q y cr = MakesAll M (letters text) fresh answers_yes from vs (sheet_of sd p z br) (sheet_of sd q y cr)

  pub one_act : (sd : Side) (a : Act (Numbered Ask)) (p z q y : Page) (br cr : ℕ → Bool) → Lands1 sd p z br a q y cr
      → Made sd (move_of sd a ∷ []) p z br q y cr
  unfolding MakesAll
  one_act Air a p z q y br cr h = record { at = sheet_of Air q y cr; first = h; rest = refl }
  one_act Ground a p z q y br cr h = record { at = sheet_of Ground q y cr; first = h; rest = refl }

  pub more_acts : (sd : Side) (a : Act (Numbered Ask)) (vs : List (Move (Numbered Ask))) (p z q y o x : Page) (br cr er : ℕ → Bool)
      → Lands1 sd p z br a q y cr → Made sd vs q y cr o x er → Made sd (move_of sd a ∷ vs) p z br o x er
  unfolding MakesAll
  more_acts Air a vs p z q y o x br cr er h k = record { at = sheet_of Air q y cr; first = h; rest = k }
  more_acts Ground a vs p z q y o x br cr er h k = record { at = sheet_of Ground q y cr; first = h; rest = k }

  pub no_act : (sd : Side) (p z : Page) (br : ℕ → Bool) → Made sd [] p z br p z br
  unfolding MakesAll
  no_act Air p z br = refl
  no_act Ground p z br = refl

  -- the tables l, z and b lead by steps of the model to m, y and c. d, e: the decisions of the two hosts
  pub record Follows (sd : Side) (d e : ℕ → Decision) (l z b m y c : List ℕ) : Type 0 where
    pub moves : List (Move (Numbered Ask))
    pub then : ℕ → Decision
    pub near : Sound then m
    pub far : Sound e y
    pub counted : Counted c
    pub makes : Made sd moves (page_of text sd d l) (page_of text (other sd) e z) (broken_of b) (page_of text sd then m)
        (page_of text (other sd) e y) (broken_of c)

  -- pages by another name
  pub as_pages : (sd : Side) (vs : List (Move (Numbered Ask))) (p p' z z' q q' y y' : Page) (br cr cr' : ℕ → Bool)
      → p ≡ p' → z ≡ z' → q ≡ q' → y ≡ y' → cr ≡ cr'
      → Made sd vs p' z' br q' y' cr' → Made sd vs p z br q y cr
  as_pages sd vs p p' z z' q q' y y' br cr cr' a b c e f w =
      subst (λ (x : Page). Made sd vs x z br q y cr) (sym a)
      (subst (λ (x : Page). Made sd vs p' x br q y cr) (sym b)
      (subst (λ (x : Page). Made sd vs p' z' br x y cr) (sym c)
      (subst (λ (x : Page). Made sd vs p' z' br q' x cr) (sym e)
      (subst (λ (x : ℕ → Bool). Made sd vs p' z' br q' y' x) (sym f) w))))
