-- Pieces that are due are passed: what that makes of a story.
use Rattle.links.specs.declared.journal.Entry.TheVariants as entry
use Rattle.session_history.proofs.Due.{due_ran}
use Rattle.session_state.proofs.Terms.{List, [], append-nil, append_assoc, false, subst, sym, true, ◌++◌, ◌∷◌, Send, Entry, tells_then, Tells, Told, Image, serving_piece, AreDuePieces, AreGiven, items_in, Chapter, Rules, Survivor, entries_of, place_of, Serving, moment_of, IsTold, Since, Story, entries, moment, sends, then_story}

-- pieces that are due are pieces
pub are_given : (rules : Rules) (all : List Send) (at : _) (more : List Entry) → AreDuePieces rules all at more → AreGiven more
are_given rules all at [] due = tt
are_given rules all at (entry.Gave conn bytes false ∷ more) due = are_given rules all _ more due.1
are_given rules all at (entry.Gave conn bytes true ∷ more) due = are_given rules all _ more due.1
are_given rules all at (entry.Took event ∷ more) due = due

-- several pieces
pub pieces : {rules : Rules} {image : Image} {earlier : List Chapter} {survivor : Survivor} {since : List Entry} (more : List Entry) → Serving rules image earlier survivor since
    → AreDuePieces rules survivor.now.state.sends (moment_of earlier since survivor.now.state.machine.taken) more → Serving rules image earlier survivor (since ++ more)
pieces {rules = rules} {image = image} {earlier = earlier} {survivor = survivor} {since = since} [] serving due = subst (Serving rules image earlier survivor) (sym (append-nil since)) serving
pieces {rules = rules} {image = image} {earlier = earlier} {survivor = survivor} {since = since} (entry.Gave conn bytes false ∷ more) serving due =
    subst (Serving rules image earlier survivor) (append_assoc since (entry.Gave conn bytes false ∷ []) more)
    (pieces more (serving_piece rules image earlier survivor since conn bytes false serving due.0) due.1)
pieces {rules = rules} {image = image} {earlier = earlier} {survivor = survivor} {since = since} (entry.Gave conn bytes true ∷ more) serving due =
    subst (Serving rules image earlier survivor) (append_assoc since (entry.Gave conn bytes true ∷ []) more)
    (pieces more (serving_piece rules image earlier survivor since conn bytes true serving due.0) due.1)
pieces (entry.Took event ∷ more) serving due = absurd due

-- the story goes on with them
pub told_pieces : {rules : Rules} {image : Image} {began : Since} {old now : Told} {story : Story} {more : List Entry} → IsTold rules image began old story → AreDuePieces rules (sends story) (moment story) more → Tells old now more
    → IsTold rules image began now (then_story story more)
told_pieces {rules = rules} {image = image} {began = began} {now = now} {story = story} {more = more} told due tells =
    let serving : Serving rules image story.earlier story.survivor (story.since ++ more) = pieces more told.serving due in
    record {
      serving = serving;
      way = due_ran rules (items_in rules.bounds (entries (then_story story more))) story.survivor (place_of story.earlier [] false) (story.since ++ more) serving.due;
      tells = subst (Tells began.told now) (append_assoc (entries_of story.earlier) story.since more) (tells_then _ _ _ _ _ told.tells tells);
      recovered = told.recovered;
      counted = told.counted;
      episodes = told.episodes;
      tables = told.tables;
    }
