-- What is most likely wrong with a program that failed: by what helps, and by where its access goes.
use Rattle.std.specs.Prelude.{ℕ, ◌+◌, ◌-◌, Bool, true, false, not, ◌&&◌, ◌||◌, List, reverse, find, Option, Some, None, option_map, is_none, nat_le, nat_lt, if◌then◌else◌, ◌==◌}
use Rattle.std.specs.List.{list_any}
use Rattle.block_book.specs.declared.block.Block.{Block}
use Rattle.block_book.specs.Block.{extent_end}
use Rattle.alloc_env.specs.declared.env.Env.{Env}
use Rattle.alloc_env.specs.declared.env.Env.TheVariants.{Pad, Zero, Delay}
use Rattle.run_history.specs.declared.answer.Cause.{Cause}
use Rattle.run_history.specs.declared.answer.Cause.TheVariants.{BadAccess, BadFree}
use Rattle.session_notes.specs.declared.episode.Try.{Try}
use Rattle.session_notes.specs.Survival.{survives}
use Rattle.telling.specs.declared.fault.Fault.{Fault}
use Rattle.telling.specs.declared.fault.Fault.TheVariants.{PastEnd, Freed, Unset, Placed, Unknown}
use Rattle.telling.specs.declared.fault.Helps.{Helps}
use Rattle.telling.specs.declared.place.Gone.{Gone}
use Rattle.telling.specs.declared.place.Near.{Near}
use Rattle.telling.specs.declared.place.Place.{Place}
use Rattle.telling.specs.declared.sighting.Access.{Access}
use Rattle.telling.specs.declared.sighting.Sighting.{Sighting}
use Rattle.telling.specs.declared.sighting.Touch.{Touch}

abbrev pub is_pad : Env → Bool
is_pad Pad = true
is_pad _ = false

abbrev pub is_zero : Env → Bool
is_zero Zero = true
is_zero _ = false

abbrev pub is_delay : Env → Bool
is_delay Delay = true
is_delay _ = false

-- How many items were taken at the oldest checkpoint from which a trial survived. A table has the newest checkpoint first.
abbrev pub oldest_cure : List Try → Option ℕ
oldest_cure tries = option_map (λ t. t.checkpoint) (find (λ t. survives t.tried) (reverse tries))

-- a trial from a checkpoint survived
abbrev pub survives_from : ℕ → Try → Bool
survives_from checkpoint t = survives t.tried && (t.checkpoint == checkpoint)

-- one did in an environment
abbrev pub survives_in : (Env → Bool) → List Try → ℕ → Bool
survives_in test tries checkpoint = list_any (λ t. survives_from checkpoint t && test t.env) tries

-- which environments helped from a checkpoint
abbrev pub helps_from : List Try → ℕ → Helps
helps_from tries checkpoint = record { pad = survives_in is_pad tries checkpoint; zero = survives_in is_zero tries checkpoint; delay = survives_in is_delay tries checkpoint }

-- which helped from the oldest checkpoint from which any did
abbrev pub helps_of : List Try → Option Helps
helps_of tries = option_map (helps_from tries) (oldest_cure tries)

-- By what helps: padding without delay is an overrun, delay without zeros a use behind free, zeros a read of what wasn't written.
abbrev pub fault_by_trials : Option Helps → Fault
fault_by_trials None = Unknown
fault_by_trials (Some helps) =
    if helps.pad && not helps.delay then PastEnd else
    if helps.delay && not helps.zero then Freed else
    if helps.zero then Unset else
    Placed

-- an address is less than 16 bytes past the extent of a live block
abbrev pub is_behind : Block → ℕ → Bool
is_behind block at = not block.delayed && (nat_le (block.at + block.size) at && nat_lt (at - extent_end block) 16)

-- padding helps, and delay doesn't
abbrev pub pads_alone : Option Helps → Bool
pads_alone None = false
pads_alone (Some helps) = helps.pad && not helps.delay

-- one byte is touched, the first behind a block's extent
abbrev pub is_next_byte : Block → Access → Bool
is_next_byte block access = (access.count == 1) && (access.at == extent_end block)

-- An access goes on where a live block ends, and padding alone helps; or where nothing does, it is of the very next byte, as a loop over bytes comes to it.
abbrev pub is_overrun : Option Near → Access → Option Helps → Bool
is_overrun None access helps = false
is_overrun (Some near) access helps = is_behind near.block access.at && (pads_alone helps || (is_none helps && is_next_byte near.block access))

-- By the block next below: a freed one was used; a live one that ends there was overrun; else by what helps.
abbrev pub fault_by_block : Option Near → ℕ → Option Helps → Fault
fault_by_block None at helps = fault_by_trials helps
fault_by_block (Some near) at helps = if near.block.delayed then Freed else if is_behind near.block at then PastEnd else fault_by_trials helps

-- By what lies there: where a block was that was freed it was used, unless a live one was overrun into its place.
abbrev pub fault_by_gone : Option Gone → Option Near → Access → Option Helps → Fault
fault_by_gone None below access helps = fault_by_block below access.at helps
fault_by_gone (Some gone) below access helps = if is_overrun below access helps then PastEnd else Freed

-- by an access in the heap; else by what helps
abbrev pub fault_by_access : Option Touch → Option Helps → Fault
fault_by_access None helps = fault_by_trials helps
fault_by_access (Some touch) helps =
    if touch.place.in_heap then fault_by_gone touch.place.gone touch.place.below touch.access helps else fault_by_trials helps

-- by a pointer that can't be freed: it was freed before; else by what helps
abbrev pub fault_by_pointer : Option Gone → Option Helps → Fault
fault_by_pointer None helps = fault_by_trials helps
fault_by_pointer (Some gone) helps = Freed

-- by the cause of the failure
abbrev pub fault_by_cause : Cause → Sighting → Option Helps → Fault
fault_by_cause BadAccess seen helps = fault_by_access seen.touch helps
fault_by_cause BadFree seen helps = fault_by_pointer seen.pointer helps
fault_by_cause _ seen helps = fault_by_trials helps

abbrev pub is_unset : Fault → Bool
is_unset Unset = true
is_unset _ = false

-- What is most likely wrong. Where zeros alone tell, the address itself was read from what was never written, and where it goes says nothing.
abbrev pub fault_of : Cause → Sighting → Option Helps → Fault
fault_of cause seen helps = if is_unset (fault_by_trials helps) then Unset else fault_by_cause cause seen helps
