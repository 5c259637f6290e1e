-- Jobs, starts and the calls that send: where the tables answer 0, they follow the model.
-- Assumes nothing.
use mathlib.Core.Path.{◌≡◌, refl, ap, sym, subst, ◌∙◌}
use mathlib.Core.Bool.{Bool, true, false, not, cond, ◌&&◌}
use mathlib.Core.List.{List, [], ◌∷◌, ◌++◌}
use Prim.Native.Nat.{ℕ, suc, ◌≤◌, ◌<◌}
use native.Mathlib.Omega.{arith}
use lib.Dec.{eqb, leb, ltb}
use lib.ListN.{get_or}
use Rattle.pair.specs.Names.{Side, other, is_idle, Call, StartRequest, StartResponse, MessageRequest, EndRequest, EndResponse, Reply, Accepted, Rejected, DStart, DData, takes, goes, sends, may_start}
use Rattle.pair.specs.Carrier.{Body, plain, user_call}
use Rattle.pair.specs.Numbered.{Numbered, mark, starter}
use Rattle.pair.proofs.ControlMachine.{Held, Ent, ent, ask, sort_of}
use Rattle.duties.specs.Memory.{Decision, job_taken, job_refused, Notes, Notice, note, told_refused, is_decided, decide, declines, tells, told_broken}
use Rattle.duties.specs.Memory as memory
use Rattle.duties.specs.Host.{Power, up, apart, down, deliver, lay_aside, happens}
use Rattle.moves.specs.declared.Held.{Held as Holds}
use Rattle.moves.specs.declared.Done.TheVariants.{Sends}
use Rattle.moves.specs.Machine.{is_message, may_do, moved_by, called_of, holding as record_of}
use Rattle.moves_laws.specs.Pages.{Beside}
use Rattle.moves_laws.proofs.Steps.{Page, page, Lands, refuses_lands, refuses_apart_lands, takes_lands}
use Rattle.moves_laws.proofs.Events.{call_lands, start_lands}
use Rattle.tables.specs.Tables.{Leaves, held_in, pushed, noted, told}
use Rattle.tables.specs.Steps.{One, Two, one, two, beside, as_rule, is_up_of, is_down, ready_rule, decided_in, kind_sent, sent, call_done, made_call, on_start, start_told, start_done, started_by, on_opened, on_decided, taken_job, take_done_of, taken, on_refused, refused_job}
use Rattle.tables.specs.Steps as steps
use Rattle.tables_laws.proofs.Reading.{jobs_from, power_of, entry_of, line_of, notes_of, page_of, broken_of, Sound, Counted}
use Rattle.tables_laws.proofs.Places.{jobs_same}
use Rattle.tables_laws.proofs.Effects.{never, held_same, put_noted}
use Rattle.tables_laws.proofs.Follow.{past, upon, first_rule_is, roomy, page_path, notes_path, line_stays, decided_stays, tells_all, Lands1, Follows}
use Rattle.tables_laws.proofs.HostMoves.{live, live_power, dead, up_power, alone_follows, idle_is}
use Rattle.tables_laws.proofs.Lines.{ready_is, sends_one, decides_one, opens_one}
use Rattle.std.specs.Prelude.{None, Some}

abbrev rule : One → ℕ
rule o = o.rule

abbrev rule2 : Two → ℕ
rule2 o = o.rule

and_left : (a b : Bool) → (a && b) ≡ true → a ≡ true
and_left true b h = refl
and_left false b h = never h

and_right : (a b : Bool) → (a && b) ≡ true → b ≡ true
and_right true b h = h
and_right false b h = never h

module _ (text : Side → ℕ → Body) (fresh : Side → Numbered Held) (from : Side) (sd : Side) (d e : ℕ → Decision) (l z b : List ℕ) (s : Sound d l) (t : Sound e z) (k : Counted b) where
  abbrev p₀ : Power → Bool → Page
  p₀ q w = page (held_in l) (line_of text sd l) (notes_of text d l) (get_or l 6 0) w q

  abbrev far₀ : Page
  far₀ = page_of text (other sd) e z

  -- ---- a job is refused

  refuses_any : (j : ℕ) → is_decided (d j) ≡ false → (q : Power) (w : Bool) → live q ≡ true
      → Lands1 text fresh from sd (p₀ q w) far₀ (broken_of b) (lay_aside j)
      (page (held_in l) (line_of text sd l) (declines j (notes_of text d l)) (get_or l 6 0) w q) far₀ (broken_of b)
  refuses_any j a up w h g i = refuses_lands text fresh (starter from sd) sd (held_in l) (line_of text sd l)
      (notes_of text d l) (get_or l 6 0) w far₀ (broken_of b) g i j a
  refuses_any j a apart w h g i = refuses_apart_lands text fresh (starter from sd) sd (held_in l) (line_of text sd l)
      (notes_of text d l) (get_or l 6 0) w far₀ (broken_of b) g i j a
  refuses_any j a down w h g i = dead h

  pub refused_follows : (j : ℕ) → (refused_job l j).rule ≡ 0 → Follows text fresh from sd d e l z b (refused_job l j).here z b
  unfolding refused_job
  refused_follows j h =
      let w : Leaves = pushed l 8 3088 16384 j in
      let x : List ℕ = w.page in
      let o2 : One = on_refused w j in
      let a1 = past rule (is_down l) (one 3 l) (cond (decided_in l j) (one 6 l) o2) (λ (v : 3 ≡ 0). omega (arith, v)) h in
      let a2 = past rule (decided_in l j) (one 6 l) o2 (λ (v : 6 ≡ 0). omega (arith, v)) (ap rule (sym a1.1) ∙ h) in
      let a3 = upon rule w.answer (as_rule (noted x j 1)) (one 23 x) (λ (v : 23 ≡ 0). omega (arith, v))
      (ap rule (sym (a1.1 ∙ a2.1)) ∙ h) in
      let all = a1.1 ∙ a2.1 ∙ a3.1 in
      let f : ℕ → Decision = decide j job_refused d in
      let c = decides_one text sd d l j job_refused refl s a3.0 in
      let n = put_noted x j 1 c.sound.full (roomy (noted x j 1).answer (ap rule (sym all) ∙ h)) in
      let m : List ℕ = (noted x j 1).page in
      let g4 = n.below 4 (omega arith) (omega arith) in
      let g5 = n.below 5 (omega arith) (omega arith) in
      let g6 = n.below 6 (omega arith) (omega arith) in
      let g7 = n.below 7 (omega arith) (omega arith) in
      let g8 = n.below 8 (omega arith) (omega arith) in
      let g9 = n.below 9 (omega arith) (omega arith) in
      let sound : Sound f m = record {
        full = omega (arith, n.size_same, c.sound.full);
        entries = omega (arith, g7, c.sound.entries);
        decided = omega (arith, g8, c.sound.decided);
        opened = omega (arith, g9, c.sound.opened);
        notices = omega (arith, n.count, n.room);
        known = λ (i : ℕ). c.sound.known i ∙ sym (decided_stays f x m c.sound
            (λ (y : ℕ) (u : 8 ≤ y) (v : y < 9). n.below y (omega arith) (omega (arith, v)))
            (λ (y : ℕ) (u : 3088 ≤ y) (v : y < 19472). n.between y (omega (arith, u)) (omega (arith, v))) i);
        powered = omega (arith, g4, c.sound.powered);
        rests = λ (v : get_or m 4 0 ≡ 2). g5 ∙ c.sound.rests (sym g4 ∙ v);
      } in
      subst (λ (o : One). Follows text fresh from sd d e l z b o.here z b) (sym all)
      (alone_follows text fresh from sd d e l z b s t k (lay_aside j) m f (page_of text sd d l) (page (held_in l) (line_of text sd l) (declines j (notes_of text d l)) (get_or l 6 0) (not (eqb (get_or l 5 0) 0)) (power_of (get_or l 4 0))) sound refl
      (page_path (held_same x m (λ (i : ℕ) (u : 0 ≤ i) (v : i < 4). n.below i u (omega (arith, v))) ∙ c.held)
      (line_stays f x m c.sound text sd
      (λ (i : ℕ) (u : 7 ≤ i) (v : i < 8). n.below i (omega arith) (omega (arith, v)))
      (λ (i : ℕ) (u : 16 ≤ i) (v : i < 3088). n.between i (omega (arith, u)) (omega (arith, v))) ∙ c.line)
      (notes_path
      (ap (λ (i : ℕ). jobs_from m i 19472) g9 ∙ jobs_same x m 11 20496 n.between (get_or x 9 0) 19472 (omega arith)
      (omega (arith, c.sound.opened)) ∙ c.opened_same)
      (n.notices ∙ ap (λ (i : List Notice). i ++ (note j told_refused ∷ [])) c.notices_same'))
      (g6 ∙ c.low 6 (omega arith) (omega arith))
      (ap (λ (v : ℕ). not (eqb v 0)) (g5 ∙ c.low 5 (omega arith) (omega arith)))
      (ap power_of (g4 ∙ c.low 4 (omega arith) (omega arith))))
      (refuses_any j (s.known j ∙ a2.0) (power_of (get_or l 4 0)) (not (eqb (get_or l 5 0) 0)) (live_power (get_or l 4 0) s.powered a1.0)))

  -- the page before a call
  pub ready_page : ready_rule l ≡ 0 → page_of text sd d l ≡ p₀ up false
  ready_page h = let r = ready_is l h in page_path refl refl refl refl (ap not r.shown) (up_power l r.is_up)

  -- ---- a job is taken

  takes_follow : (j : ℕ) → ready_rule l ≡ 0 → is_decided (d j) ≡ false → may_do sd (held_in l) MessageRequest 0 j ≡ true
      → (taken_job l (moved_by (held_in l) MessageRequest 0 j) j).rule ≡ 0
      → Follows text fresh from sd d e l z b (taken_job l (moved_by (held_in l) MessageRequest 0 j) j).here z b
  unfolding taken_job
  takes_follow j ready new may h =
      let r : Holds = moved_by (held_in l) MessageRequest 0 j in
      let w : Leaves = pushed l 8 3088 16384 j in
      let x : List ℕ = w.page in
      let v : Leaves = pushed x 9 19472 1024 j in
      let y : List ℕ = v.page in
      let a1 = upon rule w.answer (on_opened v j r) (one 23 x) (λ (i : 23 ≡ 0). omega (arith, i)) h in
      let a2 = upon rule v.answer (sent y MessageRequest r j) (one 23 y) (λ (i : 23 ≡ 0). omega (arith, i))
      (ap rule (sym a1.1) ∙ h) in
      let f : ℕ → Decision = decide j job_taken d in
      let c = decides_one text sd d l j job_taken refl s a1.0 in
      let o = opens_one text sd f x j c.sound a2.0 in
      let n = sends_one text sd f y MessageRequest r j o.sound (ap rule (sym (a1.1 ∙ a2.1)) ∙ h) in
      let u = ready_is l ready in
      subst (λ (i : One). Follows text fresh from sd d e l z b i.here z b) (sym (a1.1 ∙ a2.1))
      (alone_follows text fresh from sd d e l z b s t k (deliver j) (sent y MessageRequest r j).here f (p₀ up false)
      (page r (line_of text sd l ++ (mark (held_in l).number (ent DData (text sd j)) ∷ []))
      (memory.takes j (notes_of text d l)) (suc (get_or l 6 0)) false up) n.sound (ready_page ready)
      (n.page_is
      ∙ page_path refl (ap (λ (i : List (Numbered Ent)). i ++ (mark (held_in l).number (ent DData (text sd j)) ∷ [])) (o.line ∙ c.line))
      (notes_path (o.jobs ∙ ap (λ (i : List ℕ). i ++ (j ∷ [])) c.opened_same) (o.notices_same' ∙ c.notices_same'))
      (ap suc (o.low 6 (omega arith) (omega arith) ∙ c.low 6 (omega arith) (omega arith)))
      (ap (λ (i : ℕ). not (eqb i 0)) (o.low 5 (omega arith) (omega arith) ∙ c.low 5 (omega arith) (omega arith)) ∙ ap not u.shown)
      (ap power_of (o.low 4 (omega arith) (omega arith) ∙ c.low 4 (omega arith) (omega arith)) ∙ up_power l u.is_up))
      (λ (g i : Beside). takes_lands text fresh (starter from sd) sd (held_in l) (line_of text sd l) (notes_of text d l)
      (get_or l 6 0) far₀ (broken_of b) g i j new may))

  take_done : (j : ℕ) (c : Bool) → may_do sd (held_in l) MessageRequest 0 j ≡ c → ready_rule l ≡ 0 → is_decided (d j) ≡ false
      → (take_done_of l j (cond c (Some (Sends (moved_by (held_in l) MessageRequest 0 j))) None)).rule ≡ 0
      → Follows text fresh from sd d e l z b (take_done_of l j (cond c (Some (Sends (moved_by (held_in l) MessageRequest 0 j))) None)).here z b
  unfolding take_done_of
  take_done j true c ready new h = takes_follow j ready new c h
  take_done j false c ready new h = absurd (omega (arith, h))

  pub taken_follows : (j : ℕ) → (taken l sd j).rule ≡ 0 → Follows text fresh from sd d e l z b (taken l sd j).here z b
  unfolding taken
  taken_follows j h =
      let o2 : One = take_done_of l j (called_of sd (held_in l) MessageRequest 0 j) in
      let a1 = first_rule_is rule (ready_rule l) (cond (decided_in l j) (one 6 l) o2) (one (ready_rule l) l) refl h in
      let a2 = past rule (decided_in l j) (one 6 l) o2 (λ (v : 6 ≡ 0). omega (arith, v)) (ap rule (sym a1.1) ∙ h) in
      subst (λ (o : One). Follows text fresh from sd d e l z b o.here z b) (sym (a1.1 ∙ a2.1))
      (take_done j (may_do sd (held_in l) MessageRequest 0 j) refl a1.0 (s.known j ∙ a2.0) (ap rule (sym (a1.1 ∙ a2.1)) ∙ h))

  -- ---- a start

  start_entry : (dsc : Bool) (n : ℕ) → entry_of text sd (kind_sent (StartRequest dsc)) n 0 ≡ mark n (ent (DStart dsc) [])
  start_entry true n = refl
  start_entry false n = refl

  starts_follow : (dsc : Bool) (n : ℕ) → starter from sd ≡ true → ready_rule l ≡ 0 → steps.is_idle z ≡ true
      → may_do sd (held_in l) (StartRequest dsc) n 0 ≡ true
      → (start_told l dsc (moved_by (held_in l) (StartRequest dsc) n 0)).rule ≡ 0
      → Follows text fresh from sd d e l z b (start_told l dsc (moved_by (held_in l) (StartRequest dsc) n 0)).here z b
  unfolding start_told
  starts_follow dsc n from-here ready idle may h =
      let r : Holds = moved_by (held_in l) (StartRequest dsc) n 0 in
      let w : Leaves = told l 3 in
      let x : List ℕ = w.page in
      let a1 = upon rule w.answer (sent x (StartRequest dsc) r 0) (one 23 x) (λ (i : 23 ≡ 0). omega (arith, i)) h in
      let c = tells_all text sd d l 3 s a1.0 in
      let o = sends_one text sd d x (StartRequest dsc) r 0 c.sound (ap rule (sym a1.1) ∙ h) in
      let u = ready_is l ready in
      let here-idle : is_idle (held_in l).control ≡ true = and_left (is_idle (held_in l).control) (may_start sd dsc)
      (and_left (takes sd (held_in l).control (StartRequest dsc)) (ltb (held_in l).number n) may) in
      subst (λ (i : One). Follows text fresh from sd d e l z b i.here z b) (sym a1.1)
      (alone_follows text fresh from sd d e l z b s t k (happens (user_call (mark n (ask (StartRequest dsc) [] 0)) 0)) (sent x (StartRequest dsc) r 0).here d (p₀ up false)
      (page r (line_of text sd l ++ (mark n (ent (DStart dsc) []) ∷ [])) (tells told_broken (notes_of text d l))
      (suc (get_or l 6 0)) false up) o.sound (ready_page ready)
      (o.page_is
      ∙ page_path refl
      (ap (λ (i : List (Numbered Ent)). i ++ (entry_of text sd (kind_sent (StartRequest dsc)) n 0 ∷ [])) c.line ∙ ap
      (λ (i : Numbered Ent). line_of text sd l ++ (i ∷ [])) (start_entry dsc n))
      c.notes (ap suc (c.low 6 (omega arith) (omega arith)))
      (ap (λ (i : ℕ). not (eqb i 0)) (c.low 5 (omega arith) (omega arith)) ∙ ap not u.shown)
      (ap power_of (c.low 4 (omega arith) (omega arith)) ∙ up_power l u.is_up))
      (λ (g i : Beside). subst (λ (v : Bool). Lands text fresh v sd (p₀ up false) far₀ (broken_of b) (happens (user_call (mark n (ask (StartRequest dsc) [] 0)) 0)) (page r (line_of text sd l ++ (mark n (ent (DStart dsc) []) ∷ [])) (tells told_broken (notes_of text d l)) (suc (get_or l 6 0)) false up) far₀ (broken_of b) g i) (sym from-here)
      (start_lands text fresh sd (held_in l) (line_of text sd l) (notes_of text d l) (get_or l 6 0) (held_in z) (line_of text (other sd) z) (notes_of text e z) (get_or z 6 0) (not (eqb (get_or z 5 0) 0)) (power_of (get_or z 4 0)) (broken_of b) g i dsc n
      (and_right (takes sd (held_in l).control (StartRequest dsc)) (ltb (held_in l).number n) may)
      (ap (λ (v : Bool). v && is_idle (held_in z).control) here-idle ∙ idle_is z ∙ idle)
      (ap (λ (v : Bool). cond v (Some (Sends r)) None) may))))

  start_done_is : (dsc : Bool) (n : ℕ) (c : Bool) → may_do sd (held_in l) (StartRequest dsc) n 0 ≡ c → starter from sd ≡ true
      → ready_rule l ≡ 0 → steps.is_idle z ≡ true
      → (start_done l dsc (cond c (Some (Sends (moved_by (held_in l) (StartRequest dsc) n 0))) None)).rule ≡ 0
      → Follows text fresh from sd d e l z b
      (start_done l dsc (cond c (Some (Sends (moved_by (held_in l) (StartRequest dsc) n 0))) None)).here z b
  unfolding start_done
  start_done_is dsc n true c from-here ready idle h = starts_follow dsc n from-here ready idle c h
  start_done_is dsc n false c from-here ready idle h = absurd (omega (arith, h))

  pub started_follows : (dsc : Bool) (n : ℕ) → (started_by l z sd (starter from sd) dsc n).rule ≡ 0
      → Follows text fresh from sd d e l z b (started_by l z sd (starter from sd) dsc n).here z b
  unfolding started_by
  started_follows dsc n h =
      let o4 : One = start_done l dsc (called_of sd (held_in l) (StartRequest dsc) n 0) in
      let o3 : One = cond (leb n (held_in l).number) (one 12 l) o4 in
      let o2 : One = cond (steps.is_idle z) o3 (one 3 l) in
      let a1 = first_rule_is rule (ready_rule l) (cond (starter from sd) o2 (one 12 l)) (one (ready_rule l) l) refl h in
      let a2 = upon rule (starter from sd) o2 (one 12 l) (λ (v : 12 ≡ 0). omega (arith, v)) (ap rule (sym a1.1) ∙ h) in
      let a3 = upon rule (steps.is_idle z) o3 (one 3 l) (λ (v : 3 ≡ 0). omega (arith, v)) (ap rule (sym (a1.1 ∙ a2.1)) ∙ h) in
      let a4 = past rule (leb n (held_in l).number) (one 12 l) o4 (λ (v : 12 ≡ 0). omega (arith, v))
      (ap rule (sym (a1.1 ∙ a2.1 ∙ a3.1)) ∙ h) in
      subst (λ (o : One). Follows text fresh from sd d e l z b o.here z b) (sym (a1.1 ∙ a2.1 ∙ a3.1 ∙ a4.1))
      (start_done_is dsc n (may_do sd (held_in l) (StartRequest dsc) n 0) refl a2.0 a1.0 a3.0
      (ap rule (sym (a1.1 ∙ a2.1 ∙ a3.1 ∙ a4.1)) ∙ h))

  -- ---- the user's other calls that send

  plain_follow : (u : Call) (most : ℕ) (r : Holds) → is_message u ≡ false → sort_of (sends u) ≡ plain
      → r ≡ record_of (goes (held_in l).control u) (held_in l).number (held_in l).highest
      → ((n : ℕ) → entry_of text sd (kind_sent u) n 0 ≡ mark n (ent (sends u) [])) → ready_rule l ≡ 0 → called_of sd (held_in l) u 0 0 ≡ Some (Sends r)
      → (sent l u r 0).rule ≡ 0 → Follows text fresh from sd d e l z b (sent l u r 0).here z b
  plain_follow u most r m p q en ready called h =
      let f : Holds = record_of (goes (held_in l).control u) (held_in l).number (held_in l).highest in
      let h' : (sent l u f 0).rule ≡ 0 = ap (λ (i : Holds). (sent l u i 0).rule) (sym q) ∙ h in
      let o = sends_one text sd d l u f 0 s h' in
      let v = ready_is l ready in
      subst (λ (i : Holds). Follows text fresh from sd d e l z b (sent l u i 0).here z b) (sym q)
      (alone_follows text fresh from sd d e l z b s t k (happens (user_call (mark 0 (ask u [] 0)) most)) (sent l u f 0).here d (p₀ up false)
      (page f (line_of text sd l ++ (mark (held_in l).number (ent (sends u) []) ∷ [])) (notes_of text d l)
      (suc (get_or l 6 0)) false up) o.sound (ready_page ready)
      (o.page_is ∙ page_path refl (ap (λ (i : Numbered Ent). line_of text sd l ++ (i ∷ [])) (en (held_in l).number))
      refl refl (ap not v.shown) (up_power l v.is_up))
      (λ (g i : Beside). call_lands text fresh (starter from sd) sd (held_in l) (line_of text sd l) (notes_of text d l)
      (get_or l 6 0) far₀ (broken_of b) g i u (goes (held_in l).control u) most m p (called ∙ ap (λ (i : Holds). Some (Sends i)) q)))

  call_done_is : (u : Call) (most : ℕ) (r : Holds) (c : Bool) → is_message u ≡ false → sort_of (sends u) ≡ plain
      → r ≡ record_of (goes (held_in l).control u) (held_in l).number (held_in l).highest
      → ((n : ℕ) → entry_of text sd (kind_sent u) n 0 ≡ mark n (ent (sends u) [])) → ready_rule l ≡ 0 → called_of sd
      (held_in l) u 0 0 ≡ cond c (Some (Sends r)) None
      → (call_done l b u most (cond c (Some (Sends r)) None)).rule ≡ 0
      → Follows text fresh from sd d e l z b (call_done l b u most (cond c (Some (Sends r)) None)).here z
      (call_done l b u most (cond c (Some (Sends r)) None)).broken
  unfolding call_done
  call_done_is u most r true m p q en ready called h = plain_follow u most r m p q en ready called h
  call_done_is u most r false m p q en ready called h = absurd (omega (arith, h))

  called_follows : (u : Call) (most : ℕ) (r : Holds) (c : Bool) → is_message u ≡ false → sort_of (sends u) ≡ plain
      → r ≡ record_of (goes (held_in l).control u) (held_in l).number (held_in l).highest
      → ((n : ℕ) → entry_of text sd (kind_sent u) n 0 ≡ mark n (ent (sends u) [])) → called_of sd (held_in l) u 0 0 ≡ cond c (Some (Sends r)) None
      → (made_call l b sd u most).rule ≡ 0 → Follows text fresh from sd d e l z b (made_call l b sd u most).here z
      (made_call l b sd u most).broken
  unfolding made_call
  called_follows u most r c m p q en called h =
      let a1 = first_rule_is rule2 (ready_rule l) (call_done l b u most (called_of sd (held_in l) u 0 0)) (two (ready_rule l) l b) refl h in
      let all = a1.1 ∙ ap (call_done l b u most) called in
      subst (λ (o : Two). Follows text fresh from sd d e l z b o.here z o.broken) (sym all)
      (call_done_is u most r c m p q en a1.0 called (ap rule2 (sym all) ∙ h))

  pub start_answer_follows : (m : Bool) (a : Reply) (most : ℕ) → (made_call l b sd (StartResponse m a) most).rule ≡ 0
      → Follows text fresh from sd d e l z b (made_call l b sd (StartResponse m a) most).here z
      (made_call l b sd (StartResponse m a) most).broken
  start_answer_follows m a most h =
      called_follows (StartResponse m a) most
      (record_of (goes (held_in l).control (StartResponse m a)) (held_in l).number (held_in l).highest)
      (takes sd (held_in l).control (StartResponse m a)) refl refl refl (entries m a) refl h
    where
      entries : (m : Bool) (a : Reply) (n : ℕ)
          → entry_of text sd (kind_sent (StartResponse m a)) n 0 ≡ mark n (ent (sends (StartResponse m a)) [])
      entries m Accepted n = refl
      entries m Rejected n = refl

  pub end_request_follows : (m : Bool) (most : ℕ) → (made_call l b sd (EndRequest m) most).rule ≡ 0
      → Follows text fresh from sd d e l z b (made_call l b sd (EndRequest m) most).here z (made_call l b sd (EndRequest m) most).broken
  end_request_follows m most h =
      called_follows (EndRequest m) most
      (record_of (goes (held_in l).control (EndRequest m)) (held_in l).number (held_in l).highest)
      (takes sd (held_in l).control (EndRequest m)) refl refl refl (λ (n : ℕ). refl) refl h

  pub end_answer_follows : (m : Bool) (a : Reply) (most : ℕ) → (made_call l b sd (EndResponse m a) most).rule ≡ 0
      → Follows text fresh from sd d e l z b (made_call l b sd (EndResponse m a) most).here z
      (made_call l b sd (EndResponse m a) most).broken
  end_answer_follows m a most h =
      called_follows (EndResponse m a) most
      (record_of (goes (held_in l).control (EndResponse m a)) (held_in l).number (held_in l).highest)
      (takes sd (held_in l).control (EndResponse m a)) refl refl refl (entries m a) refl h
    where
      entries : (m : Bool) (a : Reply) (n : ℕ)
          → entry_of text sd (kind_sent (EndResponse m a)) n 0 ≡ mark n (ent (sends (EndResponse m a)) [])
      entries m Accepted n = refl
      entries m Rejected n = refl
