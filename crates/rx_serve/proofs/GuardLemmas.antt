-- What a guard of the heap gives of a session's run.
use Rattle.command_line.specs.declared.run_words.Guard.TheVariants as guarded
use Rattle.heap_guard.proofs.Guarding.{keeps_to_extents, keeps_to_live}
use Rattle.rx_serve.proofs.Terms.{List, Option, Some, [], subst, ℕ, ◌++◌, ◌≡◌, Item, Coming, Choice, Image, KeepsToLiveBlocks, Stop, Session, Rules, Episode, Unnoted, noted, Keeping, IsOutcome, Telling, Guard, End, rule_of, received_items, KeepsToBlocks}
use Rattle.rx_serve.proofs.HeadlineLemmas.{Recorded, recorded_in}

pub keeps_to_blocks : (guard : Guard) (rules : Rules) (keeping : Keeping) (image : Image) (why : Stop) (end : End) (recording : List Choice) (told : List Episode) {before now : Option Unnoted} {coming : Option Coming} {telling : Telling} {counted : ℕ}
    → rules.limits.permits ≡ rule_of guard
    → IsOutcome rules image keeping coming telling (record { stop = why; recorded = end.recorded; tail = end.tail; taken = end.taken; steps = end.steps }) (noted (Some []) (Some []) before) (noted (Some recording) (Some told) now) counted
    → KeepsToBlocks guard rules image telling.account recording end
keeps_to_blocks guarded.Off rules keeping image why end recording told own is = tt
keeps_to_blocks guarded.Extent rules keeping image why end recording told {telling = telling} own is =
    keeps_to_extents rules.limits (received_items rules telling.account) telling.account.survivor.plan image telling.account.survivor.now own
keeps_to_blocks guarded.Block rules keeping image why end recording told {telling = telling} own is =
    let session : Session = telling.account in
    let items : List Item = received_items rules session in
    let recorded : Recorded session end recording = recorded_in session end why recording told _ is.notes in
    subst (λ n. KeepsToLiveBlocks image items (recording ++ end.tail) n) is.steps_are
    (subst (λ list. KeepsToLiveBlocks image items list session.survivor.now.steps) recorded.all
    (keeps_to_live rules.limits items session.survivor.plan image session.survivor.now own is.is.ended.account.served))
