-- What a link over a port shows, at first and behind a give.
use Rattle.port_link.proofs.Terms.{Bool, Err, List, None, Ok, Option, Result, Some, [], ap, arith, false, inl, inr, length, refl, subst, sym, true, ℕ, ◌-◌, ◌<◌, ◌∙◌, ◌≡◌, ◌≤◌, fun_ext, cases_lt, get_or-replicate, get_or_past, length-replicate, IfErr, IsErrOf, replicate, ◌^◌, Rose, one_more, Given, All, Gone, LinkFault, Memory, WriteFault, told_by, ComesUntold, Counts, Handed, HasGiveCause, IsGone, Phases, TellsHanded, Told, Seen, PortEntry, Place, PortLimits, Stage, Unopened, gones_behind, is_done, is_given, is_present, phase_of, shown, stage_behind, stage_in, Served, IsAt, IsJustBound, IsWhole, Stands, gives_at, link_journal, phases_at, stage_at, told_at, given_place, told_nothing}
use Rattle.port_link.proofs.GiveLemmas.{given_gives, given_phase}
use Rattle.port_link.proofs.PlaceLemmas.{closes_to, keeps_set}
use Rattle.port_link.specs.declared.place.Closing.TheVariants as closing

pub none_yet : (n conn : ℕ) → stage_in (replicate n Unopened) conn ≡ Unopened
none_yet n conn = elim (cases_lt conn n) [
  | inl less ↦ get_or-replicate n conn Unopened Unopened less
  | inr past ↦ get_or_past (replicate n Unopened) conn Unopened (let size = length-replicate n Unopened in omega arith)
]

abbrev pub first_place : List Stage → Place
first_place stages = record { stages = stages; accepted = 0; closed = 0; closing = closing.Nothing; ends = 0; stopped = false }

-- nothing was told yet over a port that was just bound
pub fresh_told : (told : Option (List PortEntry)) (stages : List Stage) → IsJustBound told → told_at told (first_place stages) ≡ told_nothing told
unfolding told_at link_journal
fresh_told None stages bound = refl
fresh_told (Some calls) stages bound = ap (λ (served : Served). told_by (link_journal (first_place stages) served)) (bound calls refl)

pub fresh_stands : (told : Option (List PortEntry)) (connections : List Bool) (limits : PortLimits) (stages : List Stage) → IsJustBound told → connections ≡ [] → ((conn : ℕ) → stage_in stages conn ≡ Unopened) → length stages ≡ 4096 → Stands told connections limits (first_place stages)
fresh_stands told connections limits stages bound none at size =
    subst (λ (c : List Bool). Stands told c limits (first_place stages)) (sym none)
    (record {
      agrees = λ calls is. subst (IsAt (first_place stages)) (sym (bound calls is)) (record { stages = λ conn. sym (ap shown (at conn)); accepted = refl; closed = refl; stopped = refl });
      room = size;
      present = λ conn. sym (ap is_present (at conn));
      accepted = refl;
      count = refl;
      behind = λ conn past. at conn;
      closing = closes_to closing.Nothing stages (λ conn. ap is_done (at conn));
      most = omega arith;
      at_once = omega arith;
      ended = λ more. let no : ⊥ = omega arith in absurd no;
    })

pub fresh_whole : (told : Option (List PortEntry)) → IsJustBound told → IsWhole told
fresh_whole told bound = λ calls is. ap (λ (served : Served). served.part) (bound calls is)

pub fresh_phases : (stages : List Stage) → ((conn : ℕ) → stage_in stages conn ≡ Unopened) → (conn : ℕ) → phases_at (first_place stages) conn ≡ phase_of Unopened
fresh_phases stages at conn = ap phase_of (at conn)

pub handed_told : (told : Option (List PortEntry)) (place : Place) (conn : ℕ) (bytes : List ℕ) → TellsHanded (told_at told place) (Some (record { conn = conn; length = length bytes })) conn bytes
unfolding told_at
handed_told None place conn bytes = tt
handed_told (Some calls) place conn bytes = refl

rose_more : (n : ℕ) → Rose n (one_more n)
rose_more n = elim (cases_lt n (2 ^ 64 - 1)) [
  | inl less ↦ inl (omega arith)
  | inr past ↦ inr (omega arith)
]

later_more : (n : ℕ) → n ≤ one_more n
later_more n = omega arith

-- the counts behind a give
pub give_cause : (takes later gones now : ℕ) (result : Result Given LinkFault) → later ≡ takes → now ≡ gones_behind gones result → IfErr result (λ fault. fault ≡ Memory)
    → HasGiveCause (record { takes = takes; gives = 0; gones = gones }) (record { takes = later; gives = 0; gones = now }) result
give_cause takes later gones now result same is alone = record {
  later = omega arith;
  write_fault = never result alone;
  later_gone = subst (λ n. gones ≤ n) (sym is) (no_fall result);
  gone = λ gone. subst (Rose gones) (sym is) (rose result gone);
  takes = same;
}
  where
    never : (answer : Result Given LinkFault) → IfErr answer (λ fault. fault ≡ Memory) → IsErrOf answer WriteFault → Rose 0 0
    never (Ok given) alone is = cc
    never (Err fault) alone is = cc

    no_fall : (answer : Result Given LinkFault) → gones ≤ gones_behind gones answer
    no_fall (Ok All) = omega arith
    no_fall (Ok (Gone count)) = later_more gones
    no_fall (Err fault) = omega arith

    rose : (answer : Result Given LinkFault) → IsGone answer → Rose gones (gones_behind gones answer)
    rose (Ok All) gone = absurd gone
    rose (Ok (Gone count)) gone = rose_more gones
    rose (Err fault) gone = absurd gone

-- a give changes no phase, and not to whom is given
phases_given : (place later : Place) (conn : ℕ) (result : Result Given LinkFault) → later ≡ given_place conn result place → conn < length place.stages → phases_at later ≡ phases_at place
phases_given place later conn result is less =
    ap (λ (p : Place). phases_at p) is ∙ fun_ext (λ other. keeps_set phase_of place.stages conn (stage_behind (stage_at place conn) result) less (given_phase (stage_at place conn) result) other)

gives_given : (place later : Place) (conn : ℕ) (result : Result Given LinkFault) → later ≡ given_place conn result place → conn < length place.stages → gives_at later ≡ gives_at place
gives_given place later conn result is less =
    ap (λ (p : Place). gives_at p) is ∙ fun_ext (λ other. keeps_set is_given place.stages conn (stage_behind (stage_at place conn) result) less (given_gives (stage_at place conn) result) other)

abbrev pub seen_with : Told → Option Handed → Bool → Bool → Counts → Phases → (ℕ → Bool) → Seen
seen_with told handed takes gives counts phases to =
    record { told = told; phases = phases; coming = Some ComesUntold; handed = handed; gives_to = to; takes = takes; gives = gives; counts = counts }

pub rest_given : (told : Told) (handed : Option Handed) (takes gives : Bool) (counts : Counts) (place later : Place) (conn : ℕ) (result : Result Given LinkFault) → later ≡ given_place conn result place → conn < length place.stages
    → seen_with told handed takes gives counts (phases_at later) (gives_at later) ≡ seen_with told handed takes gives counts (phases_at place) (gives_at place)
rest_given told handed takes gives counts place later conn result is less =
    ap (λ (phases : Phases). seen_with told handed takes gives counts phases (gives_at later)) (phases_given place later conn result is less)
    ∙ ap (λ (to : ℕ → Bool). seen_with told handed takes gives counts (phases_at place) to) (gives_given place later conn result is less)

-- a connection to which is given is in the table
pub given_less : (place : Place) (conn : ℕ) → is_given (stage_at place conn) ≡ true → conn < length place.stages
given_less place conn given = elim (cases_lt conn (length place.stages)) [
  | inl less ↦ less
  | inr past ↦ (let no : is_given Unopened ≡ true = sym (ap is_given (get_or_past place.stages conn Unopened past)) ∙ given in cc)
]

-- and it is below 4096
pub given_below : (told : Option (List PortEntry)) (connections : List Bool) (limits : PortLimits) (place : Place) (conn : ℕ) → Stands told connections limits place → is_given (stage_at place conn) ≡ true → conn < 4096
given_below told connections limits place conn stands given = let less = given_less place conn given in let room = stands.room in omega arith
