-- A session of which the last episode is missing has a telling without it.
use Rattle.session_history.specs.declared.ends.SessionBreak.TheVariants as session_break
use Rattle.session_history.specs.declared.ends.Stop.TheVariants as stop
use Rattle.std.proofs.Common.{IfSome}
use Rattle.std.specs.Prelude.{◌⊎◌}
use Rattle.std.proofs.lemmas.List.{append-nil}
use Rattle.std.proofs.lemmas.List.Elements.{All-cons, All-nil}
use Rattle.trials.specs.Failing.{session_at, HasFailed}
use Rattle.trials.proofs.Failed.{failures_have_accounts, of_survivor}
use Rattle.session_state.proofs.Terms.{List, None, Option, Some, [], ap, arith, inl, inr, length, length-append, map, refl, subst, sym, ℕ, ◌++◌, ◌<◌, ◌∙◌, ◌∷◌, ◌≡◌, map-append, All, MatchOption, Entry, Coming, Choice, Image, SessionEnd, Stop, entries_of-then, Session, journal_of, EndsBy, HasNoEnding, Chapter, Rules, Survivor, entries_of, IsSoundBefore, first_survivor, Episode, Unnoted, AreRecovered, Recovery, adopted_by, episode_of, survivor_in, AreRinged, HaveRings, Keeping, Stand, starting_stands, GivesUpBy, HasGivenUp, HasNothingBehind, IsHandedLast, IsNoteStop, IsTelling, Telling, Walk, episodes_of, story_of, walk_behind}
use Rattle.session_state.specs.Noted.{IsNext, TellsNoted, NotedIsTold}

-- ---- lists by their last element

same_last : {X : Type 0} (xs ys : List X) (x y : X) → xs ++ x ∷ [] ≡ ys ++ y ∷ [] → (xs ≡ ys) × (x ≡ y)
same_last [] [] x y e = (refl, cc)
same_last [] (b ∷ ys) x y e = absurd (omega (arith, ap length e, length-append ys (y ∷ [])))
same_last (a ∷ xs) [] x y e = absurd (omega (arith, ap length e, length-append xs (x ∷ [])))
same_last (a ∷ xs) (b ∷ ys) x y e =
    let first : a ≡ b = cc in
    let more : xs ++ x ∷ [] ≡ ys ++ y ∷ [] = cc in
    let rest = same_last xs ys x y more in
    (ap (λ one. one ∷ xs) first ∙ ap (λ l. b ∷ l) rest.0, rest.1)

record HasLast {X : Type 0} (xs : List X) : Type 0 where
  front : List X
  last : X
  split : xs ≡ front ++ last ∷ []

has_last : {X : Type 0} (xs : List X) → (xs ≡ []) ⊎ HasLast xs
has_last [] = inl refl
has_last (x ∷ xs) = by (has_last xs)
  where
    by : (xs ≡ []) ⊎ HasLast xs → (x ∷ xs ≡ []) ⊎ HasLast (x ∷ xs)
    by (inl none) = inr (record { front = []; last = x; split = ap (λ l. x ∷ l) none })
    by (inr has) = inr (record { front = x ∷ has.front; last = has.last; split = ap (λ l. x ∷ l) has.split })

none_behind : {X : Type 0} (xs : List X) → length xs ≡ 0 → xs ≡ []
none_behind [] e = refl
none_behind (x ∷ xs) e = absurd (omega (arith, e))

-- ---- the front of a session

-- there are as many recoveries as chapters
recovered_many : (rules : Rules) (image : Image) (before : List Entry) (first : Survivor) (chapters : List Chapter) (recoveries : List Recovery) (now : Survivor) → AreRecovered rules image before first chapters recoveries now → length chapters ≡ length recoveries
recovered_many rules image before first [] [] now are = refl
recovered_many rules image before first [] (recovery ∷ recoveries) now are = absurd are
recovered_many rules image before first (chapter ∷ chapters) [] now are = absurd are
recovered_many rules image before first (chapter ∷ chapters) (recovery ∷ recoveries) now are =
    of_survivor (survivor_in recovery.trials) (λ trial. AreRecovered rules image (before ++ chapter.entries) (adopted_by rules recovery trial) chapters recoveries now) (length (chapter ∷ chapters) ≡ length (recovery ∷ recoveries))
    (λ trial is rest. let more = recovered_many rules image (before ++ chapter.entries) (adopted_by rules recovery trial) chapters recoveries now rest in omega (arith, more)) are.3

-- their rings
record FirstRings (rules : Rules) (image : Image) (before : List Entry) (keeping : Keeping) (from : List Stand) (chapters : List Chapter) (recoveries : List Recovery) : Type 0 where
  written : List (List ℕ)
  last : List Stand
  rings : AreRinged rules image before keeping from chapters recoveries written last

first_rings : (rules : Rules) (image : Image) (before : List Entry) (keeping : Keeping) (from : List Stand) (front back : List Chapter) (recoveries rest : List Recovery) (written : List (List ℕ)) (last : List Stand) → length front ≡ length recoveries
    → AreRinged rules image before keeping from (front ++ back) (recoveries ++ rest) written last → FirstRings rules image before keeping from front recoveries
first_rings rules image before keeping from [] back [] rest written last many are = record { written = []; last = from; rings = refl }
first_rings rules image before keeping from [] back (recovery ∷ recoveries) rest written last many are = absurd (omega (arith, many))
first_rings rules image before keeping from (chapter ∷ front) back [] rest written last many are = absurd (omega (arith, many))
first_rings rules image before keeping from (chapter ∷ front) back (recovery ∷ recoveries) rest [] last many are = absurd are
first_rings rules image before keeping from (chapter ∷ front) back (recovery ∷ recoveries) rest (pages ∷ written) last many are =
    let fewer : length front ≡ length recoveries = omega (arith, many) in
    let more = first_rings rules image (before ++ chapter.entries) keeping are.0 front back recoveries rest written last fewer are.2 in
    record { written = pages ∷ more.written; last = more.last; rings = (are.0, are.1, more.rings) }

-- ---- a telling without its last recovery

abbrev without : List Chapter → Chapter → List Recovery → Telling
without front chapter recoveries = record { account = session_at front chapter; recoveries = recoveries; walk = None }

-- where noting failed a session stopped at no end
ends_noting : (rules : Rules) (session : Session) (why : Stop) → IsNoteStop why → EndsBy rules session why
ends_noting rules session (stop.Ends end) is = absurd is
ends_noting rules session (stop.Breaks session_break.ReadFault) is = absurd is
ends_noting rules session (stop.Breaks session_break.WriteFault) is = absurd is
ends_noting rules session (stop.Breaks session_break.FileFault) is = tt
ends_noting rules session (stop.Breaks session_break.Memory) is = tt

-- where nothing stands behind the last recovery, the journal is that of the failure
same_journal : (session : Session) (front : List Chapter) (chapter : Chapter) → session.earlier ≡ front ++ chapter ∷ [] → session.since ≡ [] → HasNoEnding session → journal_of (session_at front chapter) ≡ journal_of session
same_journal session front chapter split since none =
    ap (λ es. entries_of front ++ es) (append-nil chapter.entries) ∙ sym (entries_of-then front chapter) ∙ ap entries_of (sym split)
    ∙ sym (ap (λ es. entries_of session.earlier ++ es) (ap (λ es. es ++ (session.ending ++ session.broken)) since ∙ ap (λ es. es ++ session.broken) none.1 ∙ none.2) ∙ append-nil (entries_of session.earlier))

-- the episode that is missing is the last one of some recoveries
lacks_recovery : (rules : Rules) (image : Image) (keeping : Keeping) (coming : Option Coming) (session : Telling) (why : Stop) (told : List Episode) (episode : Episode) (front : List Chapter) (chapter : Chapter) → IsSoundBefore rules image → IsTelling rules image keeping coming session why → IsNoteStop why
    → session.account.since ≡ [] → HasNoEnding session.account → session.account.earlier ≡ front ++ chapter ∷ [] → told ++ episode ∷ [] ≡ map episode_of session.recoveries
    → (telling : Telling) × TellsNoted rules image keeping coming session why told (episode ∷ []) telling
lacks_recovery rules image keeping coming session why told episode front chapter sound is stops since none split all =
    let found : HasFailed rules image front chapter session.recoveries = failures_have_accounts rules image session.account session.recoveries front chapter [] sound is.ended.account is.recovered split in
    let many = recovered_many rules image [] (first_survivor rules image) session.account.earlier session.recoveries session.account.survivor is.recovered in
    let fewer = recovered_many rules image [] (first_survivor rules image) front found.before chapter.survivor found.recovered in
    let later : found.later ≡ [] = none_behind found.later (omega (arith, many, fewer, ap length split, ap length found.split, length-append front (chapter ∷ []), length-append found.before (found.recovery ∷ found.later))) in
    let recoveries : session.recoveries ≡ found.before ++ found.recovery ∷ [] = found.split ∙ ap (λ (rs : List Recovery). found.before ++ found.recovery ∷ rs) later in
    let last = same_last told (map episode_of found.before) episode (episode_of found.recovery) (all ∙ ap (map episode_of) recoveries ∙ map-append episode_of found.before (found.recovery ∷ [])) in
    let moved = subst (λ (chapters : List Chapter). HaveRings rules image keeping chapters session.recoveries) split is.ringed in
    let ringed : HaveRings rules image keeping (front ++ chapter ∷ []) (found.before ++ found.recovery ∷ []) = subst (λ (rs : List Recovery). HaveRings rules image keeping (front ++ chapter ∷ []) rs) recoveries moved in
    let rings = first_rings rules image [] keeping (starting_stands keeping ringed.followed) front (chapter ∷ []) found.before (found.recovery ∷ []) ringed.written ringed.last fewer ringed.rings in
    let telling : Telling = without front chapter found.before in
    let next : IsNext rules image (story_of telling) episode = record { recovery = found.recovery; survivor = found.survivor; is = found.is; episode_is = last.1 } in (
      telling,
      record {
        is = record {
          ended = record { account = found.account; comes = tt; pieces = tt; ends = ends_noting rules (session_at front chapter) why stops };
          recovered = found.recovered;
          ringed = record { followed = ringed.followed; before = ringed.before; written = rings.written; last = rings.last; rings = rings.rings };
          walked = tt;
          gave_up = tt;
        };
        journal = same_journal session.account front chapter split since none;
        episodes = append-nil (map episode_of found.before) ∙ sym last.0;
        next = All-cons (IsNext rules image (story_of telling)) episode [] next (All-nil (IsNext rules image (story_of telling)));
      },
    )

-- or that of the walk behind the last survivor
lacks_walk : (rules : Rules) (image : Image) (keeping : Keeping) (coming : Option Coming) (session : Telling) (why : Stop) (told : List Episode) (episode : Episode) (walk : Walk) → IsTelling rules image keeping coming session why → HasGivenUp rules image keeping (story_of session) walk
    → HasNoEnding session.account → told ++ episode ∷ [] ≡ map episode_of session.recoveries ++ episode_of (walk_behind session.account.survivor walk) ∷ []
    → (telling : Telling) × TellsNoted rules image keeping coming session why told (episode ∷ []) telling
lacks_walk rules image keeping coming session why told episode walk is gave none all =
    let last = same_last told (map episode_of session.recoveries) episode (episode_of (walk_behind session.account.survivor walk)) all in
    let telling : Telling = record session { walk = None } in
    let next : IsNext rules image (story_of telling) episode = record { recovery = walk_behind session.account.survivor walk; survivor = refl; is = gave.recovers; episode_is = last.1 } in (
      telling,
      record {
        is = record { ended = is.ended; recovered = is.recovered; ringed = is.ringed; walked = tt; gave_up = subst (λ (came : Option SessionEnd). IfSome came (GivesUpBy None)) (sym none.0) tt };
        journal = refl;
        episodes = append-nil (map episode_of session.recoveries) ∙ sym last.0;
        next = All-cons (IsNext rules image (story_of telling)) episode [] next (All-nil (IsNext rules image (story_of telling)));
      },
    )

-- one of the two, where an episode is missing
lacks_one : (rules : Rules) (image : Image) (keeping : Keeping) (coming : Option Coming) (session : Telling) (why : Stop) (told : List Episode) (episode : Episode) → IsSoundBefore rules image → IsTelling rules image keeping coming session why → IsNoteStop why
    → HasNothingBehind session → told ++ episode ∷ [] ≡ episodes_of (story_of session) session.walk → (telling : Telling) × TellsNoted rules image keeping coming session why told (episode ∷ []) telling
lacks_one rules image keeping coming session why told episode sound is stops nothing all = by session.walk refl is.walked nothing.1 all
  where
    none_left : map episode_of session.recoveries ≡ [] → told ++ episode ∷ [] ≡ map episode_of session.recoveries → ⊥
    none_left none same = omega (arith, ap length none, ap length same, length-append told (episode ∷ []))

    of_chapters : session.account.since ≡ [] → told ++ episode ∷ [] ≡ map episode_of session.recoveries → (session.account.earlier ≡ []) ⊎ HasLast session.account.earlier
        → (telling : Telling) × TellsNoted rules image keeping coming session why told (episode ∷ []) telling
    of_chapters since same (inl none) =
        let many = recovered_many rules image [] (first_survivor rules image) session.account.earlier session.recoveries session.account.survivor is.recovered in
        let no_recovery : session.recoveries ≡ [] = none_behind session.recoveries (omega (arith, many, ap length none)) in
        absurd (none_left (ap (map episode_of) no_recovery) same)
    of_chapters since same (inr has) = lacks_recovery rules image keeping coming session why told episode has.front has.last sound is stops since nothing.0 has.split same

    by : (walk : Option Walk) → session.walk ≡ walk → IfSome walk (HasGivenUp rules image keeping (story_of session)) → MatchOption walk (session.account.since ≡ []) (λ (one : Walk). Unit {0})
        → told ++ episode ∷ [] ≡ episodes_of (story_of session) walk → (telling : Telling) × TellsNoted rules image keeping coming session why told (episode ∷ []) telling
    by None same walked since whole = of_chapters since (whole ∙ append-nil (map episode_of session.recoveries)) (has_last session.account.earlier)
    by (Some walk) same walked since whole = lacks_walk rules image keeping coming session why told episode walk is walked nothing.0 whole

-- where none is missing the session itself is told
lacks_none : (rules : Rules) (image : Image) (keeping : Keeping) (coming : Option Coming) (session : Telling) (why : Stop) (told missing : List Episode) → IsTelling rules image keeping coming session why
    → missing ≡ [] → told ++ missing ≡ episodes_of (story_of session) session.walk → (telling : Telling) × TellsNoted rules image keeping coming session why told missing telling
lacks_none rules image keeping coming session why told missing is none all = (
  session,
  record {
    is = is;
    journal = refl;
    episodes = sym (sym (append-nil told) ∙ ap (λ (es : List Episode). told ++ es) (sym none) ∙ all);
    next = subst (λ (es : List Episode). All (IsNext rules image (story_of session)) es) (sym none) (All-nil (IsNext rules image (story_of session)));
  },
)

noted_by : (rules : Rules) (image : Image) (keeping : Keeping) (coming : Option Coming) (session : Telling) (why : Stop) (told missing : List Episode) (old new : Option Unnoted) (tail : List Choice) → IsSoundBefore rules image → IsTelling rules image keeping coming session why
    → (0 < length missing → HasNothingBehind session) → told ++ missing ≡ episodes_of (story_of session) session.walk → IsHandedLast old new why tail missing
    → (telling : Telling) × TellsNoted rules image keeping coming session why told missing telling
noted_by rules image keeping coming session why told missing old new tail sound is unnoted all (inl fine) = lacks_none rules image keeping coming session why told missing is fine.1 all
noted_by rules image keeping coming session why told missing old new tail sound is unnoted all (inr (stops, inl choices)) = lacks_none rules image keeping coming session why told missing is choices.1 all
noted_by rules image keeping coming session why told missing old new tail sound is unnoted all (inr (stops, inr failed)) =
    let some : 0 < length missing = omega (arith, ap length failed.only) in
    subst (λ (es : List Episode). (telling : Telling) × TellsNoted rules image keeping coming session why told es telling) (sym failed.only)
    (lacks_one rules image keeping coming session why told failed.episode sound is stops (unnoted some) (ap (λ (es : List Episode). told ++ es) (sym failed.only) ∙ all))

pub noted_is_told : NotedIsTold
noted_is_told rules image keeping coming session outcome noted_before noted_now counted sound is =
    noted_by rules image keeping coming session outcome.stop is.notes.told is.notes.missing noted_before.unnoted noted_now.unnoted outcome.tail sound is.is is.unnoted is.notes.all_told is.notes.handed
