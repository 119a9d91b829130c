-- A session had an account at each failure, by the survivor that failed.
use Rattle.links.specs.declared.journal.Entry.TheVariants as entry
use Rattle.session_history.proofs.Closing.{items_longer}
use Rattle.trials.proofs.Terms.{List, None, Option, Some, [], ap, append-nil, append_assoc, arith, false, refl, subst, sym, ◌++◌, ◌∙◌, ◌∷◌, ◌≡◌, ◌≤◌, MatchOption, Item, Prefix, Entry, Image, prefix_trans, Override, Path, entries_of-then, serving_account, serving_adopts, serving_event, serving_first, serving_on, serving_piece, journal_of, Bounds, items_in, received, AreDue, AreLawful, Chapter, IsDueAt, IsPrompt, Rules, Survivor, entries_of, from_there, gone_on, place_of, Serving, first_survivor, moment_of, Trial, survivor_in, AreRecovered, BeginsAs, IsRecovery, Recovery, adopted_by}
use Rattle.trials.specs.Failing.{FailuresHaveAccounts}
use Rattle.trials.proofs.Fewer.{prompt_front}
use Rattle.trials.proofs.Recovered.{recovery_adopts}
use Rattle.trials.proofs.Shortest.{recovered_within}

-- the survivor goes on to where it stood at the first of some entries
goes_on : (rules : Rules) (image : Image) (items : List Item) (earlier : List Chapter) (survivor : Survivor) (since : List Entry) (to : Path) → Serving rules image earlier survivor since
    → Prefix (items_in rules.bounds (entries_of earlier ++ since)) items → IsPrompt rules items (gone_on (from_there survivor survivor.now) to) (place_of earlier since false) → to.state.machine.taken ≤ received rules.bounds (entries_of earlier ++ since)
    → Serving rules image earlier (gone_on survivor to) since
goes_on rules image items earlier survivor since to serving front prompt low =
    serving_on rules image earlier survivor since to serving
    (prompt_front rules (items_in rules.bounds (entries_of earlier ++ since)) front.0 (gone_on (from_there survivor survivor.now) to) (place_of earlier since false) low
    (subst (λ (its : List Item). IsPrompt rules its (gone_on (from_there survivor survivor.now) to) (place_of earlier since false)) (sym front.1) prompt)) low

-- one entry that is due where the survivor stands
one_due : (rules : Rules) (image : Image) (earlier : List Chapter) (survivor : Survivor) (since : List Entry) (e : Entry) → Serving rules image earlier survivor since
    → IsDueAt rules survivor.plan survivor.now (moment_of earlier since survivor.now.state.machine.taken) e → Serving rules image earlier survivor (since ++ e ∷ [])
one_due rules image earlier survivor since (entry.Took event) serving due =
    let brings = items_longer rules.bounds (entries_of earlier ++ since) (entry.Took event ∷ []) in
    serving_event rules image earlier survivor since event brings.0 serving due (sym brings.1)
one_due rules image earlier survivor since (entry.Gave conn bytes gone) serving due = serving_piece rules image earlier survivor since conn bytes gone serving due

-- the items of a journal's front are the first ones
front_of : (bounds : Bounds) (earlier : List Chapter) (since more : List Entry) (items : List Item) → Prefix (items_in bounds (entries_of earlier ++ (since ++ more))) items → Prefix (items_in bounds (entries_of earlier ++ since)) items
front_of bounds earlier since more items front =
    prefix_trans (items_in bounds (entries_of earlier ++ since)) (items_in bounds (entries_of earlier ++ (since ++ more))) items
    (subst (λ (entries : List Entry). Prefix (items_in bounds (entries_of earlier ++ since)) (items_in bounds entries)) (append_assoc (entries_of earlier) since more) (items_longer bounds (entries_of earlier ++ since) more)) front

-- entries that are due, one after another
all_due : (rules : Rules) (image : Image) (items : List Item) (earlier : List Chapter) (survivor : Survivor) (since entries : List Entry) (to : Path) → Serving rules image earlier survivor since
    → AreDue rules items (gone_on (from_there survivor survivor.now) to) (place_of earlier since false) entries → Prefix (items_in rules.bounds (entries_of earlier ++ (since ++ entries))) items
    → to.state.machine.taken ≤ received rules.bounds (entries_of earlier ++ (since ++ entries)) → Serving rules image earlier (gone_on survivor to) (since ++ entries)
all_due rules image items earlier survivor since [] to serving due front low =
    let none : since ++ [] ≡ since = append-nil since in
    subst (λ (es : List Entry). Serving rules image earlier (gone_on survivor to) es) (sym none)
    (goes_on rules image items earlier survivor since to serving (front_of rules.bounds earlier since [] items front) due (subst (λ (es : List Entry). to.state.machine.taken ≤ received rules.bounds (entries_of earlier ++ es)) none low))
all_due rules image items earlier survivor since (e ∷ entries) to serving due front low =
    let path : Path = due.0.way.path in
    let same : (since ++ e ∷ []) ++ entries ≡ since ++ (e ∷ entries) = append_assoc since (e ∷ []) entries in
    let there : Serving rules image earlier (gone_on survivor path) since = goes_on rules image items earlier survivor since path serving (front_of rules.bounds earlier since (e ∷ entries) items front) due.1 due.0.early in
    subst (λ (es : List Entry). Serving rules image earlier (gone_on survivor to) es) same
    (all_due rules image items earlier (gone_on survivor path) (since ++ e ∷ []) entries to (one_due rules image earlier (gone_on survivor path) since e there due.0.due) due.2
    (subst (λ (es : List Entry). Prefix (items_in rules.bounds (entries_of earlier ++ es)) items) (sym same) front)
    (subst (λ (es : List Entry). to.state.machine.taken ≤ received rules.bounds (entries_of earlier ++ es)) (sym same) low))

-- a survivor that stands where it began
abbrev standing : List Override → Path → Survivor
standing plan path = record { plan = plan; begun = path; now = path }

begins_as : (rules : Rules) (image : Image) (earlier : List Chapter) (first later : Survivor) → BeginsAs first later → Serving rules image earlier (standing first.plan first.begun) [] → Serving rules image earlier (standing later.plan later.begun) []
begins_as rules image earlier first later same serving =
    subst (λ (plan : List Override). Serving rules image earlier (standing plan later.begun) []) (sym same.0) (subst (λ (path : Path). Serving rules image earlier (standing first.plan path) []) (sym same.1) serving)

-- the time of one survivor, up to its failure
one_chapter : (rules : Rules) (image : Image) (items : List Item) (earlier : List Chapter) (first : Survivor) (chapter : Chapter) (recovery : Recovery) → Serving rules image earlier (standing first.plan first.begun) []
    → BeginsAs first chapter.survivor → AreDue rules items chapter.survivor (place_of earlier [] false) chapter.entries → Prefix (items_in rules.bounds (entries_of earlier ++ chapter.entries)) items
    → recovery.survivor ≡ chapter.survivor → IsRecovery rules image (entries_of earlier ++ chapter.entries) recovery → Serving rules image earlier chapter.survivor chapter.entries
one_chapter rules image items earlier first chapter recovery serving begins due front same was =
    let low : chapter.survivor.now.state.machine.taken ≤ received rules.bounds (entries_of earlier ++ chapter.entries)
    = subst (λ (s : Survivor). s.now.state.machine.taken ≤ received rules.bounds (entries_of earlier ++ chapter.entries)) same (recovered_within rules image (entries_of earlier ++ chapter.entries) recovery was) in
    all_due rules image items earlier (standing chapter.survivor.plan chapter.survivor.begun) [] chapter.entries chapter.survivor.now (begins_as rules image earlier first chapter.survivor begins serving) due front low

-- what follows from the trial that survived
pub of_survivor : (o : Option Trial) (P : Trial → Type 0) (Q : Type 0) → ((trial : Trial) → o ≡ Some trial → P trial → Q) → MatchOption o ⊥ P → Q
of_survivor None P Q so holds = absurd holds
of_survivor (Some trial) P Q so holds = so trial refl holds

-- one chapter after another
chapters_serve : (rules : Rules) (image : Image) (items : List Item) (earlier : List Chapter) (first : Survivor) (front : List Chapter) (chapter : Chapter) (back : List Chapter) (recoveries : List Recovery) (now : Survivor)
    → Serving rules image earlier (standing first.plan first.begun) [] → AreLawful rules items (entries_of earlier) (front ++ chapter ∷ back) → AreRecovered rules image (entries_of earlier) first (front ++ chapter ∷ back) recoveries now
    → Prefix (items_in rules.bounds (entries_of earlier ++ entries_of (front ++ chapter ∷ back))) items → Serving rules image (earlier ++ front) chapter.survivor chapter.entries
chapters_serve rules image items earlier first [] chapter back [] now serving lawful are some = absurd are
chapters_serve rules image items earlier first [] chapter back (recovery ∷ recoveries) now serving lawful are some =
    subst (λ (chapters : List Chapter). Serving rules image chapters chapter.survivor chapter.entries) (sym (append-nil earlier))
    (one_chapter rules image items earlier first chapter recovery serving are.0 lawful.0 (front_of rules.bounds earlier chapter.entries (entries_of back) items some) are.1 are.2)
chapters_serve rules image items earlier first (one ∷ front) chapter back [] now serving lawful are some = absurd are
chapters_serve rules image items earlier first (one ∷ front) chapter back (recovery ∷ recoveries) now serving lawful are some =
    let rest : List Chapter = front ++ chapter ∷ back in
    let here : Serving rules image earlier one.survivor one.entries = one_chapter rules image items earlier first one recovery serving are.0 lawful.0 (front_of rules.bounds earlier one.entries (entries_of rest) items some) are.1 are.2 in
    let same : entries_of (earlier ++ one ∷ []) ≡ entries_of earlier ++ one.entries = entries_of-then earlier one in
    let whole : entries_of earlier ++ (one.entries ++ entries_of rest) ≡ entries_of (earlier ++ one ∷ []) ++ entries_of rest
    = sym (append_assoc (entries_of earlier) one.entries (entries_of rest)) ∙ ap (λ es. es ++ entries_of rest) (sym same) in
    subst (λ (chapters : List Chapter). Serving rules image chapters chapter.survivor chapter.entries) (append_assoc earlier (one ∷ []) front)
    (of_survivor (survivor_in recovery.trials) (λ trial. AreRecovered rules image (entries_of earlier ++ one.entries) (adopted_by rules recovery trial) rest recoveries now) (Serving rules image ((earlier ++ one ∷ []) ++ front) chapter.survivor chapter.entries)
    (λ trial is behind.
    let adopts = recovery_adopts rules image (entries_of earlier ++ one.entries) recovery trial are.2 is in
    let low : trial.path.state.machine.taken ≤ received rules.bounds (entries_of earlier ++ one.entries) = omega (arith, adopts.early, recovered_within rules image (entries_of earlier ++ one.entries) recovery are.2) in
    chapters_serve rules image items (earlier ++ one ∷ []) (adopted_by rules recovery trial) front chapter back recoveries now
    (serving_adopts rules image earlier one.survivor one.entries (adopted_by rules recovery trial).plan trial.path here lawful.1 adopts.ran low adopts.covers adopts.feasible)
    (subst (λ (es : List Entry). AreLawful rules items es rest) (sym same) lawful.2)
    (subst (λ (es : List Entry). AreRecovered rules image es (adopted_by rules recovery trial) rest recoveries now) (sym same) behind)
    (subst (λ (es : List Entry). Prefix (items_in rules.bounds es) items) whole some)) are.3)

-- the recovery behind a chapter, and those before it
record Found (rules : Rules) (image : Image) (before : List Entry) (first : Survivor) (front : List Chapter) (chapter : Chapter) (recoveries : List Recovery) : Type 0 where
  earlier : List Recovery
  recovery : Recovery
  later : List Recovery
  split : recoveries ≡ earlier ++ recovery ∷ later
  survivor : recovery.survivor ≡ chapter.survivor
  is : IsRecovery rules image ((before ++ entries_of front) ++ chapter.entries) recovery
  recovered : AreRecovered rules image before first front earlier chapter.survivor

found_one : (rules : Rules) (image : Image) (before : List Entry) (first : Survivor) (one : Chapter) (front : List Chapter) (chapter : Chapter) (recovery : Recovery) (recoveries : List Recovery) (trial : Trial) → BeginsAs first one.survivor
    → recovery.survivor ≡ one.survivor → IsRecovery rules image (before ++ one.entries) recovery → survivor_in recovery.trials ≡ Some trial → Found rules image (before ++ one.entries) (adopted_by rules recovery trial) front chapter recoveries
    → Found rules image before first (one ∷ front) chapter (recovery ∷ recoveries)
found_one rules image before first one front chapter recovery recoveries trial begins same was is found = record {
  earlier = recovery ∷ found.earlier;
  recovery = found.recovery;
  later = found.later;
  split = ap (λ (rs : List Recovery). recovery ∷ rs) found.split;
  survivor = found.survivor;
  is = subst (λ (es : List Entry). IsRecovery rules image (es ++ chapter.entries) found.recovery) (append_assoc before one.entries (entries_of front)) found.is;
  recovered = (
    begins,
    same,
    was,
    subst (λ (o : Option Trial). MatchOption o ⊥ (λ (next : Trial). AreRecovered rules image (before ++ one.entries) (adopted_by rules recovery next) front found.earlier chapter.survivor)) (sym is) found.recovered,
  );
}

find : (rules : Rules) (image : Image) (before : List Entry) (first : Survivor) (front : List Chapter) (chapter : Chapter) (back : List Chapter) (recoveries : List Recovery) (now : Survivor)
    → AreRecovered rules image before first (front ++ chapter ∷ back) recoveries now → Found rules image before first front chapter recoveries
find rules image before first [] chapter back [] now are = absurd are
find rules image before first [] chapter back (recovery ∷ recoveries) now are = record {
  earlier = [];
  recovery = recovery;
  later = recoveries;
  split = refl;
  survivor = are.1;
  is = subst (λ (es : List Entry). IsRecovery rules image (es ++ chapter.entries) recovery) (sym (append-nil before)) are.2;
  recovered = are.0;
}
find rules image before first (one ∷ front) chapter back [] now are = absurd are
find rules image before first (one ∷ front) chapter back (recovery ∷ recoveries) now are =
    of_survivor (survivor_in recovery.trials) (λ trial. AreRecovered rules image (before ++ one.entries) (adopted_by rules recovery trial) (front ++ chapter ∷ back) recoveries now) (Found rules image before first (one ∷ front) chapter (recovery ∷ recoveries))
    (λ trial is behind.
    found_one rules image before first one front chapter recovery recoveries trial are.0 are.1 are.2 is
    (find rules image (before ++ one.entries) (adopted_by rules recovery trial) front chapter back recoveries now behind)) are.3

pub failures_have_accounts : FailuresHaveAccounts
failures_have_accounts rules image session recoveries front chapter back sound account are split =
    let items : List Item = items_in rules.bounds (journal_of session) in
    let recovered = subst (λ (chapters : List Chapter). AreRecovered rules image [] (first_survivor rules image) chapters recoveries session.survivor) split are in
    let found = find rules image [] (first_survivor rules image) front chapter back recoveries session.survivor recovered in
    let some : Prefix (items_in rules.bounds (entries_of (front ++ chapter ∷ back))) items
    = subst (λ (chapters : List Chapter). Prefix (items_in rules.bounds (entries_of chapters)) items) split (items_longer rules.bounds (entries_of session.earlier) (session.since ++ (session.ending ++ session.broken))) in
    let serving = chapters_serve rules image items [] (first_survivor rules image) front chapter back recoveries session.survivor (serving_first rules image sound) (subst (AreLawful rules items []) split account.earlier) recovered some in
    record {
      before = found.earlier;
      recovery = found.recovery;
      later = found.later;
      split = found.split;
      survivor = found.survivor;
      is = found.is;
      account = serving_account rules image front chapter.survivor chapter.entries None serving;
      recovered = found.recovered;
    }
