-- The command `standby`: what it leaves, from the calls that make it.
use Rattle.file_notes.specs.Writing as files
use Rattle.run_history.specs.declared.answer.Answer.TheVariants as answer
use Rattle.rx_base.specs.declared.fault.IoFault.TheVariants as fault
use Rattle.standby.specs.declared.following.Unfollowed.{Unfollowed}
use Rattle.standby.specs.declared.kept.Kept.{Kept}
use Rattle.standby.specs.Following.{BreaksBy, kept_to}
use Rattle.standby.specs.Missing.{AllGiven, IsShort}
use Rattle.standby.specs.Serving.{EndsBy, WasServed, plain_limits}
use Rattle.rx_serve.proofs.Terms.{List, None, Ok, Option, Some, [], ap, arith, inl, inr, length, map, refl, subst, sym, ℕ, ◌*◌, ◌++◌, ◌+◌, ◌-◌, ◌<◌, ◌^◌, ◌∙◌, ◌∷◌, ◌≡◌, ◌≤◌, Err, ◌⊎◌, IoFault, MAX_ITEMS, few_in_all, HasCause, Rose, Stream, Send, sent_to, FileCall, Added, Calls, Contents, Entry, Counts, events_in, pieces_in, Choice, Image, Answer, HasAnswerCause, IsEnd, items_in, few_items, Recorded, choice_line, choice_lines, end_line, head_line, line_of, lines_text, IsRecord, count_of, CallsFront, Difference, bounds_of, BreaksOffTrunk, ServesOnTrunk, StandbyValue, End, Faults, HasFaults, Outside, faults, outside, HasNoSession, IsFilesAnswer, HasTakeoverCause, AreCovered, CallsRecording, ClosesRecording, EndsRecording, HasRecorded, IsBrokenOff, IsFirstShort, StandbyEnds, StartsRecording, TakesOver}
use Rattle.rx_serve.proofs.FewSteps.{few_behind, few_taken}
use Rattle.rx_serve.proofs.NotingLemmas.{not_read, not_write, note_is_no_end}
use Rattle.rx_serve.proofs.RunLemmas.{rose_within}

-- ---- the record that is written

lines_are : (choices : List Choice) → choice_lines choices ≡ lines_text (map line_of choices)
lines_are [] = refl
lines_are (choice ∷ choices) = ap (λ rest. choice_line choice ++ rest) (lines_are choices)

-- its first line, and the others behind it
whole_text : (value : StandbyValue) (recorded : Recorded) (choices : List Choice) (steps taken : ℕ) (old mid new : Option Contents) → StartsRecording value recorded old mid (Ok tt) → EndsRecording value choices steps taken mid new (Ok tt)
    → HasRecorded value recorded choices steps taken old new
whole_text value recorded choices steps taken None mid new starts ends = tt
whole_text value recorded choices steps taken (Some old) None new starts ends = absurd starts
whole_text value recorded choices steps taken (Some old) (Some mid) None starts ends = absurd ends
whole_text value recorded choices steps taken (Some old) (Some mid) (Some new) starts ends =
    let end : List ℕ = end_line steps taken in
    record {
      here = ends.here ∙ ap (λ (file : Option (List ℕ)). Some (files.all_kept file ++ (choice_lines choices ++ end))) starts.here
          ∙ ap (λ (lines : List ℕ). Some (head_line 2 recorded.window recorded.frame ++ (lines ++ end))) (lines_are choices);
      others = λ other differs. ends.others other differs ∙ starts.others other differs;
    }

-- it is whole at an end
pub closed_text : (value : StandbyValue) (recorded : Recorded) (choices : List Choice) (steps taken : ℕ) (old mid new : Option Contents) (ended end : Answer) → StartsRecording value recorded old mid (Ok tt)
    → ClosesRecording value choices steps taken mid new ended end → IsEnd end → HasRecorded value recorded choices steps taken old new
closed_text value recorded choices steps taken old mid new ended end starts (inl (is_end, (same, ends))) at_end = whole_text value recorded choices steps taken old mid new starts ends
closed_text value recorded choices steps taken old mid new ended end starts (inr (inl (is_end, (why, (note, ends))))) at_end = absurd (note_is_no_end why end note at_end)
closed_text value recorded choices steps taken old mid new ended end starts (inr (inr (none, (same, left)))) at_end = absurd (none (subst IsEnd same at_end))

-- what is no fault of files was answered before it was ended
pub closed_other : (value : StandbyValue) (choices : List Choice) (steps taken : ℕ) (mid new : Option Contents) (ended end : Answer) {other : Answer} → ((why : IoFault) → IsFilesAnswer why other → ⊥) → ClosesRecording value choices steps taken mid new ended end
    → end ≡ other → ended ≡ other
closed_other value choices steps taken mid new ended end not (inl (is_end, (same, ends))) is = sym same ∙ is
closed_other value choices steps taken mid new ended end not (inr (inl (is_end, (why, (note, ends))))) is = absurd (not why (subst (IsFilesAnswer why) is note))
closed_other value choices steps taken mid new ended end not (inr (inr (none, (same, left)))) is = sym same ∙ is

-- the same, by what its end tells
pub closes_as : {steps steps_told taken taken_told : ℕ} {end told : Answer} (value : StandbyValue) (choices : List Choice) (mid new : Option Contents) (ended : Answer) → steps_told ≡ steps → taken_told ≡ taken → told ≡ end
    → ClosesRecording value choices steps taken mid new ended end → ClosesRecording value choices steps_told taken_told mid new ended told
closes_as {steps = steps} {steps_told = steps_told} {taken = taken} {taken_told = taken_told} {end = end} {told = told} value choices mid new ended steps_is taken_is told_is closes =
    subst (λ s. ClosesRecording value choices s taken_told mid new ended told) (sym steps_is)
    (subst (λ t. ClosesRecording value choices steps t mid new ended told) (sym taken_is) (subst (λ (a : Answer). ClosesRecording value choices steps taken mid new ended a) (sym told_is) closes))

-- the calls that end it
module _ (value : StandbyValue) (old new : Option (List FileCall)) where
  pub closed_whole : (ended : Answer) → IsEnd ended → Calls old new (Added value.recording ∷ []) → CallsRecording value old new ended ended
  closed_whole ended at_end made = record { last = Added value.recording ∷ []; begins = ([], refl); whole = λ is. refl; none = λ no. absurd (no at_end); made = made }

  pub closed_part : (why : IoFault) (ended end : Answer) → IsEnd ended → IsFilesAnswer why end → CallsFront old new (Added value.recording ∷ []) → CallsRecording value old new ended end
  closed_part why ended end at_end note made = record {
    last = made.front;
    begins = made.begins;
    whole = λ is. absurd (note_is_no_end why end note is);
    none = λ no. absurd (no at_end);
    made = made.made;
  }

-- ---- what clients have

module _ (counts : List (ℕ × ℕ)) (kept : List Kept) (sends : List Send) (same : (conn : ℕ) → kept_to conn kept ≡ sent_to conn sends) where
  pub first_short : (conn : ℕ) → IsShort counts kept (Some conn) → IsFirstShort counts sends conn
  first_short conn short = (
    subst (λ (bytes : List ℕ). length bytes < count_of counts conn) (same conn) short.0,
    λ other below. subst (λ (bytes : List ℕ). count_of counts other ≤ length bytes) (same other) (short.1 other below),
  )

  pub none_short : IsShort counts kept None → AreCovered counts sends
  none_short none = λ conn. subst (λ (bytes : List ℕ). count_of counts conn ≤ length bytes) (same conn) (none conn)

-- ---- its counts fit into a record

pub counts_fit : {image : Image} {recorded : Recorded} {budget : ℕ} {counts : List (ℕ × ℕ)} {from : List Entry} {source source_later : Option Stream} {sink sink_later : Option (List ℕ)} {end : Answer} {choices : List Choice} {steps taken : ℕ}
    → ServesOnTrunk image recorded budget counts from source source_later sink sink_later end choices steps taken → IsRecord recorded → recorded.steps < 2 ^ 62 → budget ≤ 2 ^ 36 → (steps < 2 ^ 63) × (taken ≤ MAX_ITEMS)
counts_fit {recorded = recorded} {budget = budget} {steps = steps} {taken = taken} serves is short low =
    let path = serves.path in
    let seam = serves.followed.seam in
    let items = items_in (bounds_of recorded) serves.entries in
    let most : length items ≤ MAX_ITEMS = few_items (bounds_of recorded) serves.entries in
    let first : seam.state.machine.taken ≤ MAX_ITEMS = omega (arith, serves.followed.is_seam.taken, is.taken) in
    let few : path.state.machine.taken ≤ MAX_ITEMS = few_taken (plain_limits budget) items [] seam path MAX_ITEMS serves.followed.served most first in
    let done : path.steps ≤ seam.steps + path.state.machine.taken * (budget + 1) + budget + 1 = few_behind (plain_limits budget) items [] seam path serves.followed.served in
    let product : path.state.machine.taken * (budget + 1) < 2 ^ 57 = few_in_all path.state.machine.taken budget few (omega (arith, low)) in
    (omega (arith, done, product, low, short, serves.followed.is_seam.steps, serves.steps_are), omega (arith, few, serves.taken_are))

-- ---- faults

-- no following breaks off by a fault of files, nor is it refused
module _ {image : Image} {recorded : Recorded} {source source_later : Option Stream} {sink sink_later : Option (List ℕ)} {end : Answer} {found : Option Difference} {counted : ℕ}
    (breaks : BreaksOffTrunk image recorded source source_later sink sink_later end found counted) where
  broken_at : {other : Answer} → end ≡ other → BreaksBy image recorded breaks.seen breaks.entries breaks.replay other
  broken_at is = subst (λ (a : Answer). BreaksBy image recorded breaks.seen breaks.entries breaks.replay a) is breaks.ends

  broken_no_file : end ≡ answer.FileFault → ⊥
  broken_no_file is = (broken_at is).1

  broken_not_refused : end ≡ answer.BadWords → ⊥
  broken_not_refused is = (broken_at is).1

  pub broken_faults : {before now : Counts} (files files_later : ℕ) (answered : Answer) → HasAnswerCause before now end → answered ≡ end → HasFaults (faults files before.takes before.gives) (faults files_later now.takes now.gives) answered
  broken_faults files files_later answered cause same = record {
    file_fault = λ is. absurd (broken_no_file (sym same ∙ is));
    read_fault = λ is. cause.read_fault (sym same ∙ is);
    write_fault = λ is. cause.write_fault (sym same ∙ is);
  }

-- so it is of a run that was served on
module _ {image : Image} {recorded : Recorded} {budget : ℕ} {counts : List (ℕ × ℕ)} {from : List Entry} {source source_later : Option Stream} {sink sink_later : Option (List ℕ)} {end : Answer} {choices : List Choice} {steps taken : ℕ}
    (serves : ServesOnTrunk image recorded budget counts from source source_later sink sink_later end choices steps taken) where
  abbrev EndsAs : Answer → Type 0
  EndsAs other =
      EndsBy recorded budget serves.entries serves.path serves.coming (AllGiven counts (events_in from) serves.followed.seam serves.path (pieces_in serves.entries)) (WasServed image recorded budget counts from serves.entries) other

  pub served_no_file : end ≡ answer.FileFault → ⊥
  served_no_file is = subst EndsAs is serves.ends

  served_not_refused : end ≡ answer.BadWords → ⊥
  served_not_refused is = subst EndsAs is serves.ends

-- a client has more than was sent
pub short_faults : (conn : ℕ) (before now : Faults) (answered : Answer) → answered ≡ answer.Short conn → HasFaults before now answered
short_faults conn before now answered same = record {
  file_fault = λ is. absurd (let other : answer.Short conn ≡ answer.FileFault = sym same ∙ is in cc);
  read_fault = λ is. absurd (let other : answer.Short conn ≡ answer.ReadFault = sym same ∙ is in cc);
  write_fault = λ is. absurd (let other : answer.Short conn ≡ answer.WriteFault = sym same ∙ is in cc);
}

-- the record that is written wasn't started
pub unstarted_faults : (before now : Faults) (why : IoFault) (answered : Answer) → IsFilesAnswer why answered → HasCause {T = Unit {0}} before.files now.files (Err why) → HasFaults before now answered
unstarted_faults before now why answered note cause = record {
  file_fault = λ is. by_files why (subst (λ (a : Answer). IsFilesAnswer why a) is note) cause;
  read_fault = λ is. absurd (not_read why (subst (λ (a : Answer). IsFilesAnswer why a) is note));
  write_fault = λ is. absurd (not_write why (subst (λ (a : Answer). IsFilesAnswer why a) is note));
}
  where
    by_files : (why : IoFault) → IsFilesAnswer why answer.FileFault → HasCause {T = Unit {0}} before.files now.files (Err why) → Rose before.files now.files
    by_files fault.Failed note cause = cause.failed refl
    by_files fault.Memory note cause = absurd (let never : answer.FileFault ≡ answer.Memory = note in cc)

-- a run was served on: files, source and sink were called before
pub served_faults : {files started closed input output : ℕ} {mid last : Counts} (value : StandbyValue) (choices : List Choice) (steps taken : ℕ) (before later : Option Contents) (ended end answered : Answer) → files ≤ started
    → (end ≡ answer.FileFault → (ended ≡ answer.FileFault) ⊎ Rose started closed) → (ended ≡ answer.FileFault → ⊥) → started ≤ closed → input ≤ mid.takes → output ≤ mid.gives → HasAnswerCause mid last ended
    → ClosesRecording value choices steps taken before later ended end → answered ≡ end → HasFaults (faults files input output) (faults closed last.takes last.gives) answered
served_faults value choices steps taken before later ended end answered start file never more took gave cause closes same = record {
  file_fault = λ is. elim (file (sym same ∙ is)) [
    | inl other ↦ absurd (never other)
    | inr rose ↦ rose_within start (omega arith) rose
  ];
  read_fault = λ is. rose_within took (omega arith) (cause.read_fault (closed_other value choices steps taken before later ended end not_read closes (sym same ∙ is)));
  write_fault = λ is. rose_within gave (omega arith) (cause.write_fault (closed_other value choices steps taken before later ended end not_write closes (sym same ∙ is)));
}

-- ---- what is left

pub broken_off : {image : Image} {recorded : Recorded} (old new : Outside) (end : End) (why : Unfollowed) → old.counter ≤ new.counter
    → ((counted : ℕ) → new.counter ≡ old.counter + counted → BreaksOffTrunk image recorded old.input new.input old.output new.output why.answer why.difference counted) → new.files ≡ old.files → new.calls ≡ old.calls
    → end.answer ≡ why.answer → end.difference ≡ why.difference → HasNoSession end → IsBrokenOff image recorded old new end
broken_off {image = image} {recorded = recorded} old new end why more breaks same_files same_calls answered differs nothing =
    let counted : ℕ = new.counter - old.counter in
    let count : new.counter ≡ old.counter + counted = omega (arith, more) in
    record {
      counted = counted;
      counts = count;
      breaks =
          subst (λ (d : Option Difference). BreaksOffTrunk image recorded old.input new.input old.output new.output end.answer d counted) (sym differs)
          (subst (λ (a : Answer). BreaksOffTrunk image recorded old.input new.input old.output new.output a why.difference counted) (sym answered) (breaks counted count));
      same_files = same_files;
      same_calls = same_calls;
      nothing = nothing;
    }

-- a run that was served on has this end
pub serves_as : {image : Image} {recorded : Recorded} {budget : ℕ} {counts : List (ℕ × ℕ)} {from : List Entry} {source source_later : Option Stream} {sink sink_later : Option (List ℕ)} {end : Answer} {choices told : List Choice} {steps steps_told taken taken_told : ℕ}
    → choices ≡ told → steps ≡ steps_told → taken ≡ taken_told → ServesOnTrunk image recorded budget counts from source source_later sink sink_later end choices steps taken
    → ServesOnTrunk image recorded budget counts from source source_later sink sink_later end told steps_told taken_told
serves_as {image = image} {recorded = recorded} {budget = budget} {counts = counts} {from = from} {source = source} {source_later = source_later} {sink = sink} {sink_later = sink_later} {end = end} {choices = choices} {told = told} {steps = steps} {steps_told = steps_told} {taken = taken} {taken_told = taken_told} choices_is steps_is taken_is serves =
    subst (λ c. ServesOnTrunk image recorded budget counts from source source_later sink sink_later end c steps_told taken_told) choices_is
    (subst (λ s. ServesOnTrunk image recorded budget counts from source source_later sink sink_later end choices s taken_told) steps_is
    (subst (λ t. ServesOnTrunk image recorded budget counts from source source_later sink sink_later end choices steps t) taken_is serves))

-- ---- bad words

note_not_refused : (why : IoFault) (end : Answer) → IsFilesAnswer why end → end ≡ answer.BadWords → ⊥
note_not_refused fault.Failed end note is = absurd (let other : answer.FileFault ≡ answer.BadWords = sym note ∙ is in cc)
note_not_refused fault.Memory end note is = absurd (let other : answer.Memory ≡ answer.BadWords = sym note ∙ is in cc)

takes_not_refused : (value : StandbyValue) (image : Image) (recorded : Recorded) (counts : List (ℕ × ℕ)) (old new : Outside) (end : End) → TakesOver value image recorded counts old new end → end.answer ≡ answer.BadWords → ⊥
takes_not_refused value image recorded counts old new end (inl broken) is = broken_not_refused broken.breaks is
takes_not_refused value image recorded counts old new end (inr (inl stopped)) is = elim stopped.stops [
  | inl (conn, short, first, same_files, same_calls) ↦ let other : answer.Short conn ≡ answer.BadWords = sym short ∙ is in cc
  | inr (why, note, covered, starts, called) ↦ note_not_refused why end.answer note is
]
takes_not_refused value image recorded counts old new end (inr (inr served)) is = elim served.closes [
  | inl (at_end, (same, ends)) ↦ served_not_refused served.serves (sym same ∙ is)
  | inr (inl (at_end, (why, (note, ends)))) ↦ note_not_refused why end.answer note is
  | inr (inr (none, (same, left))) ↦ served_not_refused served.serves (sym same ∙ is)
]

pub standby_not_refused : (value : StandbyValue) (old new : Outside) (end : End) → StandbyEnds value old new end → end.answer ≡ answer.BadWords → ⊥
standby_not_refused value old new end (inl none) is = (subst (HasTakeoverCause old.files value) is none.cause).holds
standby_not_refused value old new end (inr up) is = takes_not_refused value up.image up.recorded up.counts _ new end up.takes is

-- why nothing was taken over is no fault of input or output
pub takeover_no_read : (told : Option Contents) (value : StandbyValue) (end : Answer) → HasTakeoverCause told value end → end ≡ answer.ReadFault → ⊥
takeover_no_read told value end cause is = (subst (HasTakeoverCause told value) is cause).holds

pub takeover_no_write : (told : Option Contents) (value : StandbyValue) (end : Answer) → HasTakeoverCause told value end → end ≡ answer.WriteFault → ⊥
takeover_no_write told value end cause is = (subst (HasTakeoverCause told value) is cause).holds

-- what was counted before is counted too
pub wider_faults : {files mid input output : ℕ} {later : Faults} {end : Answer} → files ≤ mid → HasFaults (faults mid input output) later end → HasFaults (faults files input output) later end
wider_faults less has = record { file_fault = λ is. rose_within less (omega arith) (has.file_fault is); read_fault = has.read_fault; write_fault = has.write_fault }

-- ---- over other names of what input and output tell and count

pub takes_at : {value : StandbyValue} {image : Image} {recorded : Recorded} {counts : List (ℕ × ℕ)} {contents contents_later : Option Contents} {calls calls_later : Option (List FileCall)} {source source_is later later_is : Option Stream} {sink sink_is written written_is : Option (List ℕ)} {steps steps_later : ℕ} {end : End}
    → source ≡ source_is → sink ≡ sink_is → later ≡ later_is → written ≡ written_is → TakesOver value image recorded counts (outside contents calls source sink steps) (outside contents_later calls_later later written steps_later) end
    → TakesOver value image recorded counts (outside contents calls source_is sink_is steps) (outside contents_later calls_later later_is written_is steps_later) end
takes_at {value = value} {image = image} {recorded = recorded} {counts = counts} {contents = contents} {contents_later = contents_later} {calls = calls} {calls_later = calls_later} {source_is = source_is} {later = later} {later_is = later_is} {sink = sink} {sink_is = sink_is} {written = written} {written_is = written_is} {steps = steps} {steps_later = steps_later} {end = end} one two three four takes =
    subst (λ w. TakesOver value image recorded counts (outside contents calls source_is sink_is steps) (outside contents_later calls_later later_is w steps_later) end) four
    (subst (λ l. TakesOver value image recorded counts (outside contents calls source_is sink_is steps) (outside contents_later calls_later l written steps_later) end) three
    (subst (λ k. TakesOver value image recorded counts (outside contents calls source_is k steps) (outside contents_later calls_later later written steps_later) end) two
    (subst (λ s. TakesOver value image recorded counts (outside contents calls s sink steps) (outside contents_later calls_later later written steps_later) end) one takes)))

pub faults_at : {files files_later input input_is output output_is later later_is written written_is : ℕ} {end : Answer} → input ≡ input_is → output ≡ output_is → later ≡ later_is → written ≡ written_is
    → HasFaults (faults files input output) (faults files_later later written) end → HasFaults (faults files input_is output_is) (faults files_later later_is written_is) end
faults_at {input = input} {input_is = input_is} {output = output} {output_is = output_is} {later = later} {later_is = later_is} {written = written} {written_is = written_is} {end = end} one two three four has = record {
  file_fault = has.file_fault;
  read_fault = λ is. subst (λ n. Rose input_is n) three (subst (λ n. Rose n later) one (has.read_fault is));
  write_fault = λ is. subst (λ n. Rose output_is n) four (subst (λ n. Rose n written) two (has.write_fault is));
}
