-- A table of rows of one kind, as lists of rows, of tasks and of positions.
use Rattle.std.specs.Prelude.{◌≡◌, ℕ, zero, suc, ◌+◌, ◌<◌, ◌≤◌, min, cond, ◌⊎◌, List, [], ◌∷◌, ◌++◌, map, length, IfSome, None, Option, Some, MatchOption, nat_lt, slice_index_or, slice_set, refl}
use Rattle.std.proofs.Common.{sym, ap, subst, ◌∙◌, inl, inr, not-suc-le-zero, arith}
use Rattle.std.specs.Borrow.{Bor}
use Rattle.std.specs.List.{AllByRecursion}
use Rattle.std.proofs.lemmas.List.{get_or-map, get_or_past, get_or_append_left, get_or_push, set_past, length-map, map-set, map_push}
use Rattle.std.proofs.Math.Seq.{map-set_same}
use Rattle.std.proofs.lemmas.Bool.{cases_lt, cond_below, cond_above, le-ltb}
use Rattle.denial.specs.declared.Denial.{Denial}
use Rattle.group.specs.declared.meaning.Outcome.{Outcome}
use Rattle.group.specs.Task.{Task, Class, Position, Lawful, Attained, at, place, no_task, after, settled}
use Rattle.kinds.specs.declared.entry.Entry.{Entry}
use Rattle.kinds.specs.declared.table.Table.{Table}
use Rattle.kinds.specs.declared.table_row.TableRow.{Ghosts}
use Rattle.kinds.specs.Demands.{Asked}
use Rattle.kinds.specs.Tables.{Keeps, Placed, add_fault, Grown}
use Rattle.kinds.specs.Held.{meant, rows_of, tasks_of, places_of, Held, HeldEntry, Absent, Added}

same_or_below : (i n : ℕ) → i < n + 1 → (i ≡ n) ⊎ (i < n)
same_or_below i n h = grind arith

module _ {R : Type 0} {g : Ghosts R} where
  -- an entry stands at each place
  entry_at : (es : List (Entry R g)) (i : ℕ) → i < length es → (e : Entry R g) × (e ≡ slice_index_or es i e)
  entry_at [] i l = absurd (not-suc-le-zero l)
  entry_at (e ∷ es) zero l = (e, refl)
  entry_at (e ∷ es) (suc i) l = entry_at es i (omega arith)

  rows_told : (es : List (Entry R g)) → map g.kind.says (map (λ e. e.row) es) ≡ map (λ e. g.kind.says e.row) es
  rows_told [] = refl
  rows_told (e ∷ es) = ap (λ xs. g.kind.says e.row ∷ xs) (rows_told es)

  -- what holds of each entry holds of each task and its position
  pub each : (P : Task → ℕ → Type 0) → ((e : Entry R g) → P (meant g e.row) e.place) → (es : List (Entry R g)) (i : ℕ) →
      i < length (map g.kind.task (map (λ e. g.kind.says e.row) es)) →
      P (at (map g.kind.task (map (λ e. g.kind.says e.row) es)) i) (place (map (λ e. e.place) es) i)
  each P h [] i l = absurd (not-suc-le-zero l)
  each P h (e ∷ es) zero l = h e
  each P h (e ∷ es) (suc i) l = each P h es i (omega arith)

  -- what holds of what each good row says holds of what each entry's row says
  pub all_told : (P : g.kind.Said → Type 0) → ((r : R) → g.kind.good r → P (g.kind.says r)) → (es : List (Entry R g)) →
      AllByRecursion P (map (λ e. g.kind.says e.row) es)
  all_told P h [] = tt
  all_told P h (e ∷ es) = (h e.row e.keeps, all_told P h es)

  -- every row that is held keeps the rules of its kind
  pub all_sound : (es : List (Entry R g)) → AllByRecursion g.kind.Sound (map (λ e. g.kind.says e.row) es)
  all_sound = all_told g.kind.Sound g.kind.sound

  -- an entry is at a position of its task, and so is it after a job: at one of its classes
  pub standing : (e : Entry R g) → Position (meant g e.row) e.place
  standing e = g.kind.placed e.row e.keeps e.place e.low e.high

  pub moved : (e : Entry R g) (o : Outcome) (x : ℕ) → x ≡ after (meant g e.row) o e.place → (1 ≤ x) × (x ≤ g.kind.classes e.row)
  moved e o x h =
      let law = g.kind.lawful e.row e.keeps in
      let y = after (meant g e.row) o e.place in
      let class : Class (meant g e.row) ((meant g e.row).class_at y) = law.classed y (law.moves e.place o (standing e)) in
      let here : Class (meant g e.row) y = subst (Class (meant g e.row)) (g.kind.classed (g.kind.says e.row) y) class in
      (omega arith, omega (arith, here.1, g.kind.counted e.row e.keeps))

  module _ (t : Table R g) where
    pub rows_length : length (rows_of t) ≡ length t.entries.items
    rows_length = length-map t.entries.items (λ e. g.kind.says e.row)

    pub tasks_length : length (tasks_of t) ≡ length t.entries.items
    tasks_length = length-map (rows_of t) g.kind.task ∙ rows_length

    places_length : length (places_of t) ≡ length t.entries.items
    places_length = length-map t.entries.items (λ e. e.place)

    -- the rows alone
    abbrev rows : List R
    rows = map (λ e. e.row) t.entries.items

    rows_count : length rows ≡ length t.entries.items
    rows_count = length-map t.entries.items (λ e. e.row)

    pub few_rows : length (rows_of t) ≤ 16
    few_rows = omega (arith, rows_length, t.few)

    -- what holds of the task of each good row holds of each task
    pub each_task : (P : Task → Type 0) → ((r : R) → g.kind.good r → P (meant g r)) → (i : ℕ) → i < length (tasks_of t) → P (at (tasks_of t) i)
    each_task P h = each (λ x _. P x) (λ e. h e.row e.keeps) t.entries.items

    -- The laws of a group.
    pub few : length (tasks_of t) ≤ 65535
    few = omega (arith, tasks_length, t.few)

    pub same_length : length (places_of t) ≡ length (tasks_of t)
    same_length = places_length ∙ sym tasks_length

    pub positioned : (i : ℕ) → i < length (tasks_of t) → Position (at (tasks_of t) i) (place (places_of t) i)
    positioned = each Position standing t.entries.items

    pub lawfuls : (i : ℕ) → i < length (tasks_of t) → Lawful (at (tasks_of t) i)
    lawfuls = each_task Lawful g.kind.lawful

    -- some succession asks for all of the demand
    pub attaineds : (i : ℕ) → i < length (tasks_of t) → Attained (at (tasks_of t) i)
    attaineds = each_task Attained g.kind.attained

    -- the entry that stands at place i
    module _ (i : ℕ) (e : Entry R g) (l : i < length t.entries.items) (s : e ≡ slice_index_or t.entries.items i e) where
      row_here : (d : g.kind.Said) → slice_index_or (rows_of t) i d ≡ g.kind.says e.row
      row_here d = get_or-map (λ e. g.kind.says e.row) t.entries.items i e d l ∙ ap (λ e. g.kind.says e.row) (sym s)

      task_here : at (tasks_of t) i ≡ meant g e.row
      task_here =
          get_or-map g.kind.task (rows_of t) i (g.kind.says e.row) no_task (omega (arith, rows_length)) ∙ ap g.kind.task (row_here (g.kind.says e.row))

      place_here : place (places_of t) i ≡ e.place
      place_here = get_or-map (λ e. e.place) t.entries.items i e 0 l ∙ ap (λ e. e.place) (sym s)

      row_alone : (d : R) → slice_index_or rows i d ≡ e.row
      row_alone d = get_or-map (λ e. e.row) t.entries.items i e d l ∙ ap (λ e. e.row) (sym s)

      pub held : HeldEntry t i e
      held = (
        record {
          here = omega (arith, rows_length);
          stands = row_here;
          keeps = e.keeps;
          means = task_here;
          count = ap (λ t. length t.classes) task_here ∙ g.kind.counted e.row e.keeps;
        },
        place_here,
      )

      -- another entry f stands there in its place: of the same row, or at the place after a job
      pub row_stays : (f : Entry R g) → f.row ≡ e.row → map (λ e. g.kind.says e.row) (slice_set t.entries.items i f) ≡ rows_of t
      row_stays f r = map-set_same (λ e. g.kind.says e.row) t.entries.items i f e (ap g.kind.says r ∙ ap (λ e. g.kind.says e.row) s)

      pub place_moves : (f : Entry R g) (o : Outcome) → f.place ≡ after (meant g e.row) o e.place →
          map (λ e. e.place) (slice_set t.entries.items i f) ≡ settled (tasks_of t) (places_of t) i o
      place_moves f o p =
          map-set (λ e. e.place) t.entries.items i f
          ∙ ap (slice_set (places_of t) i) (p ∙ sym (ap (λ x. after x o (place (places_of t) i)) task_here ∙ ap (after (meant g e.row) o) place_here))

    -- no entry stands there
    module _ (i : ℕ) (l : length t.entries.items ≤ i) where
      pub missing : Absent t i
      missing = record {
        past = omega (arith, rows_length);
        none = omega (arith, tasks_length);
        means = get_or_past (tasks_of t) i no_task (omega (arith, tasks_length));
      }

    task_absent : (i : ℕ) → length t.entries.items ≤ i → at (tasks_of t) i ≡ no_task
    task_absent i h = (missing i h).means

    -- the present class, of a kind whose position is its class
    pub class_now : ((r : R) (x : ℕ) → (meant g r).class_at x ≡ x) → (i : ℕ) →
        cond (nat_lt i (length t.entries.items)) (place (places_of t) i) 0 ≡ (at (tasks_of t) i).class_at (place (places_of t) i)
    class_now same i = by (cases_lt i (length t.entries.items))
      where
        by : (i < length t.entries.items) ⊎ (length t.entries.items ≤ i) →
            cond (nat_lt i (length t.entries.items)) (place (places_of t) i) 0 ≡ (at (tasks_of t) i).class_at (place (places_of t) i)
        by (inl l) =
            sym (cond_below i (length t.entries.items) (place (places_of t) i) 0 l)
            ∙ each (λ x y. y ≡ x.class_at y) (λ e. sym (same e.row e.place)) t.entries.items i (omega (arith, tasks_length))
        by (inr h) =
            sym (cond_above i (length t.entries.items) (place (places_of t) i) 0 0 h refl)
            ∙ sym (ap (λ x. x.class_at (place (places_of t) i)) (task_absent i h))

    -- a task that does not exist has ended a job
    pub settled_absent : (i : ℕ) (o : Outcome) → length t.entries.items ≤ i → places_of t ≡ settled (tasks_of t) (places_of t) i o
    settled_absent i o h =
        sym (set_past (places_of t) i (after (at (tasks_of t) i) o (place (places_of t) i)) (omega (arith, places_length)))

    -- The rows alone, by their places; d stands past the last.
    module _ (d : R) where
      found : (i : ℕ) → i < length t.entries.items → Held t i (slice_index_or rows i d)
      found i l =
          let e = entry_at t.entries.items i l in
          subst (Held t i) (sym (row_alone i e.0 l e.1 d)) (held i e.0 l e.1).0

      placed : Placed g.kind.classes d rows (places_of t) (length t.entries.items)
      placed i l =
          let e = entry_at t.entries.items i l in
          rw (row_alone i e.0 l e.1 d, place_here i e.0 l e.1) (e.0.low, e.0.high)

      pub good_at : (i : ℕ) → i < length t.entries.items → g.kind.good (slice_index_or rows i d)
      good_at i l = (found i l).keeps

      -- what holds of each good row and the task that it means holds of a row that stands there
      pub looked_at : (P : R → Task → Type 0) → ((r : R) → g.kind.good r → P r (meant g r)) → (i : ℕ) (o : Option (Bor R)) →
          MatchOption o (length t.entries.items ≤ i) (λ q. (i < length t.entries.items) × (q.now ≡ slice_index_or rows i d)) →
          IfSome o (λ q. P q.now (at (tasks_of t) i))
      looked_at P h i None e = tt
      looked_at P h i (Some q) e =
          subst (λ r. P r (at (tasks_of t) i)) (sym e.1) (rw ((found i e.0).means) (h (slice_index_or rows i d) (good_at i e.0)))

      -- a job that has ended
      pub settled_here : (i : ℕ) (o : Outcome) (y : ℕ) → i < length t.entries.items →
          y ≡ after (meant g (slice_index_or rows i d)) o (place (places_of t) i) →
          slice_set (places_of t) i y ≡ settled (tasks_of t) (places_of t) i o
      settled_here i o y l e =
          ap (slice_set (places_of t) i) (e ∙ ap (λ x. after x o (place (places_of t) i)) (sym (found i l).means))

      -- one good row more, at its first class
      pub grown_keeps : (r : R) → g.kind.good r → Keeps g.kind.good d (rows ++ (r ∷ [])) (length t.entries.items + 1)
      grown_keeps r ok i l =
          elim (same_or_below i (length t.entries.items) l) [
            | inl e ↦ rw (e, get_or_push rows r d (length t.entries.items) rows_count) (∣ ok ∣₁)
            | inr m ↦ rw (get_or_append_left rows (r ∷ []) d i (omega (arith, rows_count))) (∣ good_at i m ∣₁)
          ]

      pub grown_placed : (r : R) → g.kind.good r →
          Placed g.kind.classes d (rows ++ (r ∷ [])) (places_of t ++ (1 ∷ [])) (length t.entries.items + 1)
      grown_placed r ok i l =
          elim (same_or_below i (length t.entries.items) l) [
            | inl e ↦
                rw (
                  e,
                  get_or_push rows r d (length t.entries.items) rows_count,
                  get_or_push (places_of t) 1 0 (length t.entries.items) places_length,
                ) (omega arith, g.kind.some r ok)
            | inr m ↦
                rw (
                  get_or_append_left rows (r ∷ []) d i (omega (arith, rows_count)),
                  get_or_append_left (places_of t) (1 ∷ []) 0 i (omega (arith, places_length)),
                ) (placed i m)
          ]

      pub row_found : (i : ℕ) (o : Option (Bor R)) →
          MatchOption o (length t.entries.items ≤ i) (λ q. (i < length t.entries.items) × (q.now ≡ slice_index_or rows i d)) →
          MatchOption o (Absent t i) (λ q. Held t i q.now)
      row_found i None h = missing i h
      row_found i (Some q) h = subst (Held t i) (sym h.1) (found i h.0)

      pub row_grown : (r : R) →
          Grown g.kind.task (g.kind.says r) (rows_of t) (map g.kind.says (rows ++ (r ∷ []))) (places_of t) (places_of t ++ (1 ∷ []))
      row_grown r =
          let more : map g.kind.says (rows ++ (r ∷ [])) ≡ rows_of t ++ (g.kind.says r ∷ []) =
          map_push g.kind.says rows r ∙ ap (λ xs. xs ++ (g.kind.says r ∷ [])) (rows_told t.entries.items) in
          record { listed = more; tasks = ap (map g.kind.task) more ∙ map_push g.kind.task (rows_of t) (g.kind.says r); placed = refl }

    -- what was found at place i
    pub looked_up : (i : ℕ) (o : Option (Bor (Entry R g))) →
        MatchOption o (length t.entries.items ≤ i) (λ q. (i < length t.entries.items) × (q.now ≡ slice_index_or t.entries.items i q.now)) →
        MatchOption o (Absent t i) (λ q. HeldEntry t i q.now)
    looked_up i None h = missing i h
    looked_up i (Some q) h = held i q.now h.0 h.1

    -- one row more
    pub grown : (e : Entry R g) (t' : Table R g) → e.place ≡ 1 → t'.entries.items ≡ t.entries.items ++ (e ∷ []) → Added t e.row t'
    grown e t' p h =
        let more : rows_of t' ≡ rows_of t ++ (g.kind.says e.row ∷ []) =
        ap (map (λ e. g.kind.says e.row)) h ∙ map_push (λ e. g.kind.says e.row) t.entries.items e in
        record {
          listed = more;
          tasks = ap (map g.kind.task) more ∙ map_push g.kind.task (rows_of t) (g.kind.says e.row);
          placed = ap (map (λ e. e.place)) h ∙ (map_push (λ e. e.place) t.entries.items e ∙ ap (λ x. places_of t ++ (x ∷ [])) p);
        }

-- a row without fault is taken in while there is room
pub taken : {X : Type 0} (xs : List X) (bit : ℕ) (fault : Option Denial) → length xs < 16 → fault ≡ None → add_fault xs bit fault ≡ None
taken xs bit fault room e = rw (le-ltb 15 (length xs) (omega arith)) e

-- some succession of any number of jobs, counted up to 4,095, asks for all of the demand
pub all_asked : (t : Task) → Lawful t → Attained t → (N p r : ℕ) → r ≡ t.demand N p → Asked t (min N 4095) p r
all_asked t law most N p r e =
    let all = most (min N 4095) p (omega arith) in
    record { from = all.0; outcomes = all.1; position = all.2; number = all.3; sum = all.4 ∙ (same (cases_lt N 4095) ∙ sym e) }
  where
    same : (N < 4095) ⊎ (4095 ≤ N) → t.demand (min N 4095) p ≡ t.demand N p
    same (inl l) = let e : min N 4095 ≡ N = omega arith in ap (λ n. t.demand n p) e
    same (inr h) = let e : min N 4095 ≡ 4095 = omega arith in ap (λ n. t.demand n p) e ∙ sym (law.beyond N p h)
