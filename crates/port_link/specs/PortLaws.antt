-- A link over a port is sound at each moment, and goes on.
use Rattle.std.proofs.Common.{◌≡◌, ℕ, ◌<◌, Bool, true, List, Option, arith, refl, ◌∙◌, subst}
use Rattle.port_link.specs.Terms.{IsSound, Ghosts, PortEntry, open_within}
use Rattle.port_link.specs.declared.place.PortLimits.{PortLimits}
use Rattle.port_link.specs.declared.place.Place.{Place}
use Rattle.port_link.specs.declared.place.Stage.{Stage}
use Rattle.port_link.specs.declared.place.Stage.TheVariants.{Broken, Closed, Dropped, Ended, Open, Unopened}
use Rattle.port_link.specs.CallLaws.{calls_same, calls_on}
use Rattle.port_link.specs.Steps.{WentOn}
use Rattle.port_link.specs.PortLinks.{seen_of, port_of, limits_of, place_of, PortWent}
use Rattle.port_link.specs.Stages.{is_given, is_present, phase_of}
use Rattle.port_link.specs.Standing.{Stands, stage_at}
use Rattle.port_link.specs.declared.port_link.PortLink.{PortLink}
use Rattle.links.specs.Links as links

-- a connection that is open for the link is open at the port, and it gives to that
pub open_here : (stage : Stage) → phase_of stage ≡ links.Open → (is_present stage ≡ true) × (is_given stage ≡ true)
open_here Unopened is = cc
open_here Open is = (refl, refl)
open_here Ended is = cc
open_here Broken is = (refl, refl)
open_here Dropped is = cc
open_here Closed is = cc

-- one that is open at the port is one of the link's
pub present_below : (told : Option (List PortEntry)) (connections : List Bool) (limits : PortLimits) (place : Place) (conn : ℕ) → Stands told connections limits place → is_present (stage_at place conn) ≡ true → conn < place.accepted
present_below told connections limits place conn stands there =
    let less = open_within connections conn (stands.present conn ∙ there) in let same = stands.accepted in omega arith

module _ {C : Type 0} {g : Ghosts C} (told : C → Option (List PortEntry)) (faults : C → ℕ) where
  pub port_sound : (link : PortLink C g) → IsSound (seen_of told faults link)
  port_sound link = record {
    gives_open = λ conn is. (open_here (stage_at link.place conn) is).1;
    below = λ conn is.
        let less = present_below _ _ link.limits link.place conn link.stands (open_here (stage_at link.place conn) is).0 in
        let most = link.stands.most in
        let few = link.few in
        omega arith;
  }

module _ {C F : Type 0} {g : Ghosts C} (fixed : C → F) (told : C → Option (List PortEntry)) where
  pub port_same : (link : PortLink C g) → PortWent fixed told link link
  port_same link = record { port = refl; limits = refl; went = calls_same link.limits (told link.port) }

  pub port_on : (first second third : PortLink C g) → PortWent fixed told first second → PortWent fixed told second third → PortWent fixed told first third
  port_on first second third one two = record {
    port = two.port ∙ one.port;
    limits = two.limits ∙ one.limits;
    went = calls_on first.limits (told first.port) (told second.port) (told third.port) one.went
        (subst (λ (l : PortLimits). WentOn l (told second.port) (told third.port)) one.limits two.went);
  }

-- it stands where its port's calls lead, if it tells them
pub port_stands : {C : Type 0} {g : Ghosts C} (link : PortLink C g) → Stands (g.told (port_of link)) (g.connections (port_of link)) (limits_of link) (place_of link)
port_stands link = link.stands
