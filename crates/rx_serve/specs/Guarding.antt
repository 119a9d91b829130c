-- What a guard of the heap gives of a session's run.
use Rattle.std.specs.Prelude.{List, ◌++◌}
use Rattle.command_line.specs.declared.run_words.Guard.TheVariants as guarded
use Rattle.rx_serve.specs.Terms.{Choice, Image, KeepsToExtents, KeepsToLiveBlocks, Session, Rules, Guard}
use Rattle.rx_serve.specs.declared.ending.End.{End}
use Rattle.rx_serve.specs.Headline.{received_items}

-- By the guard of the heap, over the account of a session. Block: whatever of the heap the recorded run touches, at each of its instructions, is among
-- the bytes that one block reserves which is live then. Extent: whatever of the heap the survivor touched on its way lies in the extent of one block that
-- stood then, in the layout of its heap. Off: nothing is said.
abbrev pub KeepsToBlocks : Guard → Rules → Image → Session → List Choice → End → Type 0
KeepsToBlocks guarded.Off rules image session recording end = Unit {0}
KeepsToBlocks guarded.Extent rules image session recording end = KeepsToExtents rules.limits (received_items rules session) session.survivor.plan image session.survivor.now
KeepsToBlocks guarded.Block rules image session recording end = KeepsToLiveBlocks image (received_items rules session) (recording ++ end.tail) end.steps
