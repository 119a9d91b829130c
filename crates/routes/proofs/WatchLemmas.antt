-- Each table that a watch tells begins with the tries of the session's own walk.
use Rattle.session_history.specs.declared.ends.SessionBreak.TheVariants as session_break
use Rattle.session_history.specs.declared.ends.Stop.TheVariants as stop
use Rattle.session_notes.specs.declared.episode.Tried.{Tried}
use Rattle.session_notes.specs.Survival.{survives}
use Rattle.trials.specs.Episodes.{AreRecovered, IsRecovery, Recovery, adopted_by, episode_of, point_of}
use Rattle.trials.specs.Tables.{Chance, IsRight, Trial, WalksOver, survivor_in, try_of}
use Rattle.trials.proofs.Recovered.{ring_timed}
use Rattle.trials.proofs.Walked.{all_timed, same_trial}
use Rattle.routes.proofs.Terms.{All, Bool, List, None, Option, Some, [], ap, append-nil, false, inl, inr, map, refl, subst, suc, sym, true, ℕ, ◌++◌, ◌∙◌, ◌∷◌, ◌≡◌, MatchBool-at_false, MatchBool-at_true, All-head, All-tail, same_Some, IfSome, MatchOption, slice_get, Item, Prefix, Send, Entry, Coming, Grew, Choice, Image, Limits, Override, Stop, AtEnd, items_in, Chapter, Rules, Survivor, AreBetween, passed_in, Episode, Try, Unnoted, Keeping, AreAllTables, AreLastTables, AreTables, HasGivenUp, IsHandedLast, IsTable, IsTelling, Telling, Walk, entries, episodes_of, story_of, walk_behind}
use Rattle.routes.specs.WatchLaws.{BeginWith, NotedTablesAreTold, TablesBegin, TablesBeginWithTries}

-- a trial as it is reported, by its parts
abbrev tried : Chance → Tried → Try
tried chance result = record { checkpoint = chance.checkpoint.state.machine.taken; env = chance.env; tried = result }

-- The trials of a walk are the first ones of all that were made of its chances.
own_first : (limits : Limits) (items : List Item) (plan : List Override) (pieces : List Send) (point : ℕ) (others trials : List Trial)
    → ((chance : Chance) (index : ℕ) → slice_get (map (λ (trial : Trial). trial.chance) others) index ≡ Some chance → AreBetween 0 chance.checkpoint.state.machine.taken chance.checkpoint.state.sends)
    → WalksOver limits items plan pieces point (map (λ (trial : Trial). trial.chance) others) trials → All (IsRight limits items plan pieces point) others → Prefix (map try_of trials) (map try_of others)
own_first limits items plan pieces point [] [] timed walks right = ([], refl)
own_first limits items plan pieces point [] (trial ∷ trials) timed walks right = absurd walks
own_first limits items plan pieces point (other ∷ others) [] timed walks right = absurd walks
own_first limits items plan pieces point (other ∷ others) (trial ∷ trials) timed walks right =
    let same = same_trial limits items plan pieces point trial other walks.0
    (subst (λ (c : Chance). AreBetween 0 c.checkpoint.state.machine.taken c.checkpoint.state.sends) (sym walks.0) (timed other.chance 0 refl)) walks.1 (All-head (IsRight limits items plan pieces point) other others right) in
    let first : try_of trial ≡ try_of other = ap (λ (c : Chance). tried c trial.result) walks.0 ∙ ap (λ (r : Tried). tried other.chance r) same.result in
    of_survives (survives trial.result) refl first (own_first limits items plan pieces point others trials (λ c i h. timed c (suc i) h))
  where
    of_survives : (b : Bool) → survives trial.result ≡ b → try_of trial ≡ try_of other
        → (WalksOver limits items plan pieces point (map (λ (t : Trial). t.chance) others) trials → All (IsRight limits items plan pieces point) others → Prefix (map try_of trials) (map try_of others))
        → Prefix (map try_of (trial ∷ trials)) (map try_of (other ∷ others))
    of_survives true is first by =
        let empty : trials ≡ [] = MatchBool-at_true (trials ≡ []) (WalksOver limits items plan pieces point (map (λ (t : Trial). t.chance) others) trials) is walks.2 in
        (map try_of others, ap (λ (ts : List Trial). try_of trial ∷ (map try_of ts ++ map try_of others)) empty ∙ ap (λ (t : Try). t ∷ map try_of others) first)
    of_survives false is first by =
        let further = by (MatchBool-at_false (trials ≡ []) (WalksOver limits items plan pieces point (map (λ (t : Trial). t.chance) others) trials) is walks.2) (All-tail (IsRight limits items plan pieces point) other others right) in
        (further.0, ap (λ (ts : List Try). try_of trial ∷ ts) further.1 ∙ ap (λ (t : Try). t ∷ map try_of others) first)

-- the table of a recovery begins with the tries of its episode
table_begins : (rules : Rules) (image : Image) (entries : List Entry) (recovery : Recovery) (tries : List Try) → IsRecovery rules image entries recovery → IsTable rules entries recovery tries → Prefix (map try_of recovery.trials) tries
table_begins rules image entries recovery tries was is =
    let items : List Item = items_in rules.bounds entries in
    let pieces : List Send = passed_in rules.bounds entries in
    let timed = all_timed recovery.ring (ring_timed rules.limits items recovery.survivor.plan image recovery.survivor.now recovery.ring was.chained) in
    subst (λ (ts : List Try). Prefix (map try_of recovery.trials) ts) (sym is.tries_are)
    (own_first rules.limits items recovery.survivor.plan pieces (point_of recovery) is.trials recovery.trials
    (subst (λ (cs : List Chance). (chance : Chance) (index : ℕ) → slice_get cs index ≡ Some chance → AreBetween 0 chance.checkpoint.state.machine.taken chance.checkpoint.state.sends) (sym is.whole) timed)
    (subst (λ (cs : List Chance). WalksOver rules.limits items recovery.survivor.plan pieces (point_of recovery) cs recovery.trials) (sym is.whole) was.walks) is.right)

there : {X : Type 0} {P : X → Type 0} (o : Option X) → MatchOption o ⊥ P → (x : X) × P x
there None is = absurd is
there (Some x) is = (x, is)

-- the tables of recoveries
each_begin : (rules : Rules) (image : Image) (before : List Entry) (first : Survivor) (chapters : List Chapter) (recoveries : List Recovery) (now : Survivor) (tables : List (List Try))
    → AreRecovered rules image before first chapters recoveries now → AreTables rules before chapters recoveries tables → BeginWith (map episode_of recoveries) tables
each_begin rules image before first [] [] now [] recovered are = tt
each_begin rules image before first [] [] now (tries ∷ tables) recovered are = absurd are
each_begin rules image before first [] (recovery ∷ recoveries) now tables recovered are = absurd recovered
each_begin rules image before first (chapter ∷ chapters) [] now tables recovered are = absurd recovered
each_begin rules image before first (chapter ∷ chapters) (recovery ∷ recoveries) now [] recovered are = absurd are
each_begin rules image before first (chapter ∷ chapters) (recovery ∷ recoveries) now (tries ∷ tables) recovered are =
    let next = there (survivor_in recovery.trials) recovered.3 in
    (table_begins rules image (before ++ chapter.entries) recovery tries recovered.2 are.0, each_begin rules image (before ++ chapter.entries) (adopted_by rules recovery next.0) chapters recoveries now tables next.1 are.1)

begin_then : (episodes : List Episode) (tables : List (List Try)) (later : List Episode) (behind : List (List Try)) → BeginWith episodes tables → BeginWith later behind → BeginWith (episodes ++ later) (tables ++ behind)
begin_then [] [] later behind one other = other
begin_then [] (tries ∷ tables) later behind one other = absurd one
begin_then (episode ∷ episodes) [] later behind one other = absurd one
begin_then (episode ∷ episodes) (tries ∷ tables) later behind one other = (one.0, begin_then episodes tables later behind one.1 other)

-- all tables of a session
all_begin : (rules : Rules) (image : Image) (keeping : Keeping) (coming : Option Coming) (telling : Telling) (why : Stop) (tables : List (List Try)) → IsTelling rules image keeping coming telling why
    → AreAllTables rules (story_of telling) telling.walk why tables → TablesBegin (episodes_of (story_of telling) telling.walk) why tables
all_begin rules image keeping coming telling why tables is are = by_walk telling.walk is.walked are.behind_right
  where
    each : BeginWith (map episode_of telling.recoveries) are.each
    each = each_begin rules image [] _ telling.account.earlier telling.recoveries telling.account.survivor are.each is.recovered are.each_right

    by_walk : (walk : Option Walk) → IfSome walk (HasGivenUp rules image keeping (story_of telling)) → AreLastTables rules (story_of telling) walk why are.behind → TablesBegin (episodes_of (story_of telling) walk) why tables
    by_walk None walked last = record {
      own = are.each;
      more = are.behind;
      all = are.all;
      begin = subst (λ (es : List Episode). BeginWith es are.each) (sym (append-nil (map episode_of telling.recoveries))) each;
      no_more = last.1;
    }
    by_walk (Some walk) walked last = record {
      own = are.each ++ last.0 ∷ [];
      more = [];
      all = are.all ∙ ap (λ (ts : List (List Try)). are.each ++ ts) last.1 ∙ sym (append-nil (are.each ++ last.0 ∷ []));
      begin =
          begin_then (map episode_of telling.recoveries) are.each (episode_of (walk_behind telling.account.survivor walk) ∷ []) (last.0 ∷ []) each
          (table_begins rules image (entries (story_of telling)) (walk_behind telling.account.survivor walk) last.0 walked.recovers last.2, tt);
      no_more = λ other. refl;
    }

pub tables_begin : TablesBeginWithTries
tables_begin rules keeping image source source_later sink sink_later outcome noted_before noted_now counted tables watched =
    let more = watched.watched in
    let own : tables ≡ more.0 = same_Some tables more.0 more.1 in
    subst (λ (ts : List (List Try)). TablesBegin (episodes_of (story_of watched.serves.telling) watched.serves.telling.walk) outcome.stop ts) (sym own)
    (all_begin rules image keeping watched.serves.coming watched.serves.telling outcome.stop more.0 watched.serves.is.is more.2)

-- at an end every episode is noted
noted_begin : (why : Stop) (unnoted unnoted_now : Option Unnoted) (tail : List Choice) (before now : Option (List Episode)) (told missing all episodes : List Episode) (tables : List (List Try)) → IsHandedLast unnoted unnoted_now why tail missing
    → told ++ missing ≡ all → Grew before now told → before ≡ Some [] → now ≡ Some episodes → TablesBegin all why tables → AtEnd why (λ end. BeginWith episodes tables)
noted_begin (stop.Breaks fault) unnoted unnoted_now tail before now told missing all episodes tables handed whole grew none some begins = tt
noted_begin (stop.Ends end) unnoted unnoted_now tail before now told missing all episodes tables (inr failed) whole grew none some begins = absurd failed.0
noted_begin (stop.Ends end) unnoted unnoted_now tail before now told missing all episodes tables (inl same) whole grew none some begins =
    let is_told : told ≡ all = sym (append-nil told) ∙ ap (λ (es : List Episode). told ++ es) (sym same.1) ∙ whole in
    let grown : episodes ≡ told = subst (λ (o : Option (List Episode)). Grew (Some []) o told) some (subst (λ (o : Option (List Episode)). Grew o now told) none grew) in
    let other : stop.Ends end ≡ stop.Breaks session_break.Memory → ⊥ = λ is. cc in
    let own : begins.own ≡ tables = sym (append-nil begins.own) ∙ ap (λ (ts : List (List Try)). begins.own ++ ts) (sym (begins.no_more other)) ∙ sym begins.all in
    subst (λ (ts : List (List Try)). BeginWith episodes ts) own (subst (λ (es : List Episode). BeginWith es begins.own) (sym (grown ∙ is_told)) begins.begin)

pub noted_tables : NotedTablesAreTold
noted_tables rules keeping image source source_later sink sink_later outcome noted_before noted_now counted episodes tables watched none some =
    let notes = watched.serves.is.notes in
    noted_begin outcome.stop noted_before.unnoted noted_now.unnoted outcome.tail noted_before.episodes noted_now.episodes notes.told notes.missing (episodes_of (story_of watched.serves.telling) watched.serves.telling.walk) episodes tables notes.handed notes.all_told notes.episodes_noted none some
    (tables_begin rules keeping image source source_later sink sink_later outcome noted_before noted_now counted tables watched)
