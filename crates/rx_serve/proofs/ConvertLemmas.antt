-- The command `convert`: what it leaves, from the calls that make it.
use Rattle.std.proofs.Common.{Result, ◌≢◌}
use Rattle.run_history.specs.declared.answer.Answer.TheVariants as answer
use Rattle.rx_serve.proofs.Terms.{List, None, Ok, Option, inl, inr, subst, sym, ℕ, ◌∙◌, ◌≡◌, Err, Stream, Contents, Image, Answer, Recorded, EndsBy, ConvertsTrunk, ReplaysTrunk, ConvertValue, Outside, Writes, replayed, HasReplayCause, ConvertsFile, LeavesText}

-- a run's text was written, or a part of it
pub leaves_text : (value : ConvertValue) (old new : Outside) {mid : Option Contents} {slice text : List ℕ} (end : Answer) → mid ≡ old.files → slice ≡ text → Writes mid new.files value.out slice end
    → LeavesText value old new (Ok text) end
leaves_text value old new {mid = mid} {text = text} end same bytes writes =
    subst (λ files. Writes files new.files value.out text end) same (subst (λ list. Writes mid new.files value.out list end) bytes writes)

module _ (image : Image) (recorded : Recorded) (source later : Option Stream) (counted : ℕ) where
  -- a run without a text is a replay that gives nothing
  pub as_replay : (why : Answer) → ConvertsTrunk image recorded source later (Err why) counted → (why ≢ answer.Finished) × (why ≢ answer.WriteFault) × ReplaysTrunk image recorded source later None None why counted
  as_replay answer.Finished converts = absurd converts
  as_replay answer.WriteFault converts = absurd converts
  as_replay _ converts = ((λ is. cc), (λ is. cc), converts)

  not_answered : (why other : Answer) → ((r : ReplaysTrunk image recorded source later None None why counted) → EndsBy image recorded r.entries r.coming r.replay other → ⊥)
      → ConvertsTrunk image recorded source later (Err why) counted → why ≡ other → ⊥
  not_answered why other never converts is =
      let r = (as_replay why converts).2 in
      never r (subst (λ (a : Answer). EndsBy image recorded r.entries r.coming r.replay a) is r.ends)

  -- it isn't answered by a fault of the files, nor by bad words
  pub not_file_fault : (why : Answer) → ConvertsTrunk image recorded source later (Err why) counted → why ≡ answer.FileFault → ⊥
  not_file_fault why converts is = not_answered why answer.FileFault (λ r ends. ends) converts is

  pub not_bad_words : (why : Answer) → ConvertsTrunk image recorded source later (Err why) counted → why ≡ answer.BadWords → ⊥
  not_bad_words why converts is = not_answered why answer.BadWords (λ r ends. ends) converts is

-- a file that is written isn't answered by anything else
pub not_read_of_writes : (old new : Option Contents) (out bytes : List ℕ) (end : Answer) → Writes old new out bytes end → end ≡ answer.ReadFault → ⊥
not_read_of_writes old new out bytes end writes is = subst (Writes old new out bytes) is writes

pub not_write_of_writes : (old new : Option Contents) (out bytes : List ℕ) (end : Answer) → Writes old new out bytes end → end ≡ answer.WriteFault → ⊥
not_write_of_writes old new out bytes end writes is = subst (Writes old new out bytes) is writes

convert_not_refused_by : (value : ConvertValue) (old new : Outside) (end : Answer) (image : Image) (recorded : Recorded) (counted : ℕ) (text : Result (List ℕ) Answer)
    → ConvertsTrunk image recorded old.input new.input text counted → LeavesText value old new text end → end ≡ answer.BadWords → ⊥
convert_not_refused_by value old new end image recorded counted (Ok text) converts leaves is = subst (Writes old.files new.files value.out text) is leaves
convert_not_refused_by value old new end image recorded counted (Err why) converts leaves is = not_bad_words image recorded old.input new.input counted why converts (sym leaves.0 ∙ is)

-- nor by bad words
pub convert_not_refused : (value : ConvertValue) (old new : Outside) (end : Answer) → ConvertsFile value old new end → end ≡ answer.BadWords → ⊥
convert_not_refused value old new end (inl begun) is = subst (HasReplayCause old.files (replayed value)) is begun.cause
convert_not_refused value old new end (inr done) is = convert_not_refused_by value old new end done.image done.recorded done.counted done.text done.converts done.leaves is
