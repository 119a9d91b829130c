-- What `replay` and `convert` leave, by what the recorded run left and what differs from the record.
use Rattle.rx_serve.proofs.Terms.{Option, Some, subst, sym, ◌≡◌, Answer, CallsFront, Difference, CommandValue, ConvertValue, ReplayValue, StandbyValue, convert, replay, standby, End, Outside, HasNoSession, CallsConvert, replaying, ComparesFile, ComparesConversion, ConvertEnds, ReplayEnds, Replays}

pub replay_ends : (value : ReplayValue) (old new : Outside) (answered : Answer) (found : Option Difference) (end : End) → ComparesFile value old new answered found → end.answer ≡ answered → end.difference ≡ found
    → CallsFront old.calls new.calls (replaying value) → new.files ≡ old.files → HasNoSession end → ReplayEnds value old new end
replay_ends value old new answered found end compares is differs called same nothing =
    let here : ComparesFile value old new end.answer end.difference =
    subst (λ (f : Option Difference). ComparesFile value old new end.answer f) (sym differs) (subst (λ (a : Answer). ComparesFile value old new a found) (sym is) compares) in
    record { replays = here.replays; differs = here.differs; called = called; same_files = same; nothing = nothing }

pub convert_ends : (value : ConvertValue) (old new : Outside) (answered : Answer) (found : Option Difference) (end : End) → ComparesConversion value old new answered found → end.answer ≡ answered → end.difference ≡ found
    → CallsConvert value old.calls new.calls answered → new.output ≡ old.output → HasNoSession end → ConvertEnds value old new end
convert_ends value old new answered found end compares is differs called same nothing =
    let here : ComparesConversion value old new end.answer end.difference =
    subst (λ (f : Option Difference). ComparesConversion value old new end.answer f) (sym differs) (subst (λ (a : Answer). ComparesConversion value old new a found) (sym is) compares) in
    record {
      converts = here.converts;
      differs = here.differs;
      called = subst (λ (a : Answer). CallsConvert value old.calls new.calls a) (sym is) called;
      same_output = same;
      nothing = nothing;
    }

-- the words ask for a recorded run to be done again
pub replay_replays : (asked : Option CommandValue) (value : ReplayValue) → asked ≡ Some (replay value) → Replays asked
replay_replays asked value is = subst (λ (a : Option CommandValue). Replays a) (sym is) tt

pub convert_replays : (asked : Option CommandValue) (value : ConvertValue) → asked ≡ Some (convert value) → Replays asked
convert_replays asked value is = subst (λ (a : Option CommandValue). Replays a) (sym is) tt

pub standby_replays : (asked : Option CommandValue) (value : StandbyValue) → asked ≡ Some (standby value) → Replays asked
standby_replays asked value is = subst (λ (a : Option CommandValue). Replays a) (sym is) tt
