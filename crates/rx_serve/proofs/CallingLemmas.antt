-- Which files a command called, from the calls that its parts made.
use Rattle.std.proofs.Common.{◌≢◌}
use Rattle.run_history.specs.declared.answer.Answer.TheVariants as answer
use Rattle.rx_serve.proofs.Terms.{List, Option, [], refl, subst, ℕ, ◌++◌, ◌∷◌, ◌≡◌, Err, FileCall, Added, Loaded, Started, Calls, Contents, Answer, calls_then, front_all, front_behind, front_first, AddsAlone, CallsFront, starting, starts_of, Names, ConvertValue, ReplayValue, RunValue, LoadsText, Writes, names_of, CallsAnswer, CallsAsm, CallsConvert, CallsEnding, CallsServed, CallsWrite, before_session, replayed, replaying, HasReplayCause}

-- a file was loaded, or perhaps not
pub load_front : (name : List ℕ) (old new : Option (List FileCall)) (end : Answer) → CallsAnswer name old new end → CallsFront old new (Loaded name ∷ [])
load_front name old new answer.Memory made = made
load_front name old new _ made = front_all old new (Loaded name ∷ []) made

-- what notes say of the calls since they were made
pub adds_of : {names names_now : Names} {before old now new : Option (List FileCall)} → names ≡ names_now → before ≡ old → now ≡ new → AddsAlone names before now → AddsAlone names_now old new
adds_of {names = names} {names_now = names_now} {before = before} {old = old} {now = now} {new = new} same_names same same_now adds =
    subst (λ n. AddsAlone n old new) same_names (subst (λ b. AddsAlone names b new) same (subst (λ c. AddsAlone names before c) same_now adds))

-- ---- asm

-- the text has no image
pub asm_refused : (told : Option Contents) (source out : List ℕ) (before now : ℕ) (old new : Option (List FileCall)) (end : Answer) → LoadsText told source before now (Err end)
    → CallsAnswer source old new end → CallsAsm source out old new end
asm_refused told source out before now old new (answer.AsmRefused kind line) loads made = made
asm_refused told source out before now old new answer.TooLarge loads made = made
asm_refused told source out before now old new answer.FileFault loads made = front_first (Loaded source ∷ []) (starts_of out) (front_all old new (Loaded source ∷ []) made)
asm_refused told source out before now old new answer.Memory loads made = front_first (Loaded source ∷ []) (starts_of out) made
asm_refused told source out before now old new _ loads made = absurd loads

-- the executable was written, or a part of it
pub asm_written : (told told_later : Option Contents) (bytes source out : List ℕ) (old mid new : Option (List FileCall)) (end : Answer) → Writes told told_later out bytes end
    → Calls old mid (Loaded source ∷ []) → CallsWrite out mid new end → CallsAsm source out old new end
asm_written told told_later bytes source out old mid new answer.Finished writes one two = calls_then old mid new (Loaded source ∷ []) (starts_of out) one two
asm_written told told_later bytes source out old mid new answer.FileFault writes one two = front_behind old mid new (Loaded source ∷ []) (starts_of out) one two
asm_written told told_later bytes source out old mid new answer.Memory writes one two = front_behind old mid new (Loaded source ∷ []) (starts_of out) one two
asm_written told told_later bytes source out old mid new _ writes one two = absurd writes

-- a file was started and added to, and the last call failed
pub write_fails : (out : List ℕ) (old mid new : Option (List FileCall)) → Calls old mid (Started out ∷ []) → Calls mid new (Added out ∷ []) → CallsFront old new (starts_of out)
write_fails out old mid new one two = front_all old new (starts_of out) (calls_then old mid new (Started out ∷ []) (Added out ∷ []) one two)

-- ---- replay

module _ (value : ReplayValue) where
  -- the program wasn't loaded
  pub replay_none : (old new : Option (List FileCall)) (end : Answer) → CallsAnswer value.program old new end → CallsFront old new (replaying value)
  replay_none old new end made = front_first (Loaded value.program ∷ []) (Loaded value.recording ∷ []) (load_front value.program old new end made)

  -- nor the record
  pub replay_one : (old mid new : Option (List FileCall)) (end : Answer) → Calls old mid (Loaded value.program ∷ []) → CallsAnswer value.recording mid new end → CallsFront old new (replaying value)
  replay_one old mid new end one made = front_behind old mid new (Loaded value.program ∷ []) (Loaded value.recording ∷ []) one (load_front value.recording mid new end made)

  -- both were
  pub replay_both : (old mid new : Option (List FileCall)) → Calls old mid (Loaded value.program ∷ []) → Calls mid new (Loaded value.recording ∷ []) → Calls old new (replaying value)
  replay_both old mid new one two = calls_then old mid new (Loaded value.program ∷ []) (Loaded value.recording ∷ []) one two

-- ---- convert

module _ (value : ConvertValue) where
  -- no run began
  pub convert_none : (told : Option Contents) (old new : Option (List FileCall)) (end : Answer) → HasReplayCause told (replayed value) end → CallsFront old new (replaying (replayed value)) → CallsConvert value old new end
  convert_none told old new answer.TooLarge cause made = made
  convert_none told old new (answer.RecordRefused line) cause made = made
  convert_none told old new (answer.ElfRefused kind) cause made = made
  convert_none told old new answer.FileFault cause made = front_first (replaying (replayed value)) (starts_of value.out) made
  convert_none told old new answer.Memory cause made = front_first (replaying (replayed value)) (starts_of value.out) made
  convert_none told old new _ cause made = absurd cause

  -- a run has no text
  pub convert_broken : (old new : Option (List FileCall)) (end : Answer) → end ≢ answer.Finished → Calls old new (replaying (replayed value)) → CallsConvert value old new end
  convert_broken old new answer.Finished not made = absurd (not refl)
  convert_broken old new answer.FileFault not made = front_first (replaying (replayed value)) (starts_of value.out) (front_all old new (replaying (replayed value)) made)
  convert_broken old new answer.Memory not made = front_first (replaying (replayed value)) (starts_of value.out) (front_all old new (replaying (replayed value)) made)
  convert_broken old new _ not made = front_all old new (replaying (replayed value)) made

  -- its text was written, or a part of it
  pub convert_written : (told told_later : Option Contents) (bytes : List ℕ) (old mid new : Option (List FileCall)) (end : Answer) → Writes told told_later value.out bytes end
      → Calls old mid (replaying (replayed value)) → CallsWrite value.out mid new end → CallsConvert value old new end
  convert_written told told_later bytes old mid new answer.Finished writes one two = calls_then old mid new (replaying (replayed value)) (starts_of value.out) one two
  convert_written told told_later bytes old mid new answer.FileFault writes one two = front_behind old mid new (replaying (replayed value)) (starts_of value.out) one two
  convert_written told told_later bytes old mid new answer.Memory writes one two = front_behind old mid new (replaying (replayed value)) (starts_of value.out) one two
  convert_written told told_later bytes old mid new _ writes one two = absurd writes

-- ---- run

module _ (value : RunValue) where
  -- the program wasn't loaded, or has no image
  pub run_none : (old new : Option (List FileCall)) (end : Answer) → CallsAnswer value.program old new end → CallsFront old new (before_session value)
  run_none old new end made = front_first (Loaded value.program ∷ []) (starting (names_of value)) (load_front value.program old new end made)

  -- the two files couldn't be started
  pub run_part : (old mid new : Option (List FileCall)) → Calls old mid (Loaded value.program ∷ []) → CallsFront mid new (starting (names_of value)) → CallsFront old new (before_session value)
  run_part old mid new one made = front_behind old mid new (Loaded value.program ∷ []) (starting (names_of value)) one made

  -- they were
  pub run_all : (old mid new : Option (List FileCall)) → Calls old mid (Loaded value.program ∷ []) → Calls mid new (starting (names_of value)) → Calls old new (before_session value)
  run_all old mid new one two = calls_then old mid new (Loaded value.program ∷ []) (starting (names_of value)) one two

  -- and a session was served
  pub run_served : (old started served new : Option (List FileCall)) (ended end : Answer) → Calls old started (before_session value)
      → AddsAlone (names_of value) started served → CallsEnding value served new ended end → CallsServed value old new ended end
  run_served old started served new ended end one adds ends = record {
    added = adds.added;
    each = adds.each;
    last = ends.last;
    is = ends.is;
    made = calls_then old started new (before_session value) (adds.added ++ ends.last) one (calls_then started served new adds.added ends.last adds.made ends.made);
  }
