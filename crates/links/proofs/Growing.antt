-- What is told grows by nothing, and by one part and then another.
use Rattle.links.proofs.Terms.{List, None, Option, Some, [], ap, append-nil, append_assoc, subst, sym, ◌++◌, ◌∙◌, Entry, Grew, Tells, Told, events_in, pieces_in}
use Rattle.links.proofs.Journaled.{events_in-append, pieces_in-append}

pub grew_nothing : {T : Type 0} (list : Option (List T)) → Grew list list []
grew_nothing None = tt
grew_nothing (Some list) = sym (append-nil list)

pub grew_more : {T : Type 0} (old mid new : Option (List T)) (list more : List T) → Grew old mid list → Grew mid new more → Grew old new (list ++ more)
grew_more None mid new list more first second = tt
grew_more (Some old) None new list more first second = absurd first
grew_more (Some old) (Some mid) None list more first second = absurd second
grew_more (Some old) (Some mid) (Some new) list more first second =
    second ∙ ap (λ l. l ++ more) first ∙ append_assoc old list more

pub tells_nothing : (told : Told) → Tells told told []
tells_nothing told = record { events = grew_nothing told.events; pieces = grew_nothing told.pieces; journal = grew_nothing told.journal }

pub tells_then : (old mid new : Told) (entries more : List Entry) → Tells old mid entries → Tells mid new more → Tells old new (entries ++ more)
tells_then old mid new entries more first second = record {
  events = subst (Grew old.events new.events) (sym (events_in-append entries more)) (grew_more old.events mid.events new.events (events_in entries) (events_in more) first.events second.events);
  pieces = subst (Grew old.pieces new.pieces) (sym (pieces_in-append entries more)) (grew_more old.pieces mid.pieces new.pieces (pieces_in entries) (pieces_in more) first.pieces second.pieces);
  journal = grew_more old.journal mid.journal new.journal entries more first.journal second.journal;
}
