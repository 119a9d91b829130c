-- The command `replay`: what it leaves, from the calls that make it.
use Rattle.run_history.specs.declared.answer.Answer.TheVariants as answer
use Rattle.rx_serve.proofs.Terms.{List, Option, inl, inr, subst, ℕ, ◌≡◌, Stream, Contents, Image, IsImage, Answer, Recorded, EndsBy, ReplaysTrunk, ReplayValue, program_limit, Outside, HasFile, HasRecord, HasRecording, HasReplayCause, ReplaysFile, window_in}

-- a program and its record were loaded
pub has_recording : {told mid : Option Contents} (value : ReplayValue) {program slice : List ℕ} {recording : Recorded} {image : Image} {window : ℕ} → HasFile told value.program program_limit program → mid ≡ told
    → HasRecord mid value.recording recording → slice ≡ program → window ≡ window_in recording → IsImage slice window image → HasRecording told value image recording
has_recording value {program = program} {recording = recording} {image = image} {window = window} file same record_is bytes window_is is = record {
  program = program;
  file = file;
  recording = subst (λ told. HasRecord told value.recording recording) same record_is;
  is = subst (λ (n : ℕ). IsImage program n image) window_is (subst (λ (l : List ℕ). IsImage l window image) bytes is);
}

-- no fault of the input or of the output is why no replay began
pub no_read_cause : (told : Option Contents) (value : ReplayValue) (end : Answer) → HasReplayCause told value end → end ≡ answer.ReadFault → ⊥
no_read_cause told value end cause is = subst (HasReplayCause told value) is cause

pub no_write_cause : (told : Option Contents) (value : ReplayValue) (end : Answer) → HasReplayCause told value end → end ≡ answer.WriteFault → ⊥
no_write_cause told value end cause is = subst (HasReplayCause told value) is cause

-- no replay is answered by a fault of the files
pub no_file_fault : {image : Image} {recording : Recorded} {source source_later : Option Stream} {sink sink_later : Option (List ℕ)} {end : Answer} {counted : ℕ}
    → ReplaysTrunk image recording source source_later sink sink_later end counted → end ≡ answer.FileFault → ⊥
no_file_fault {image = image} {recording = recording} replays is = subst (λ (a : Answer). EndsBy image recording replays.entries replays.coming replays.replay a) is replays.ends

-- nor by bad words
pub replay_not_refused : (value : ReplayValue) (old new : Outside) (end : Answer) → ReplaysFile value old new end → end ≡ answer.BadWords → ⊥
replay_not_refused value old new end (inl begun) is = subst (λ (a : Answer). HasReplayCause old.files value a) is begun.cause
replay_not_refused value old new end (inr done) is = subst (λ (a : Answer). EndsBy done.image done.recorded done.replays.entries done.replays.coming done.replays.replay a) is done.replays.ends
