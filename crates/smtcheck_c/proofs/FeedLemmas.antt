-- Which session a handle has.
use Rattle.std.proofs.Common.{◌≡◌, ◌∙◌, Option, None, Some, ap, subst, sym}
use Rattle.smt_dialogue.specs.History.{History}
use Rattle.smtcheck_c.specs.Feed.{Feeds, Holds}
use Rattle.smtcheck_c.specs.declared.feed.Feed.{Feed}

held_or : Feed → Option Feed → Feed
held_or f None = f
held_or f (Some g) = g

-- a handle has one session
pub one_held : (handle : Option Feed) (f g : Feed) → handle ≡ Some f → handle ≡ Some g → f ≡ g
unfolding held_or
one_held handle f g e d = ap (held_or f) (sym e ∙ d)

-- so the one that was taken out of it was told what the handle's was
pub held_feeds : (handle : Option Feed) (taken f : Feed) (h : History) → handle ≡ Some taken → f ≡ taken
    → Holds handle h → Feeds f h
held_feeds handle taken f h is same held =
    subst (λ (g : Feed). Feeds g h) (one_held handle held.0 taken held.1 is ∙ sym same) held.2
