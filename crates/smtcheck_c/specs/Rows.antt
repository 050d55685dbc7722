-- What the handle of a session owns.
use Rattle.std.specs.Prelude.{Option}
use Rattle.std.specs.Coded.{Coded, coded_option}
use base.Fml.{Fml}
use denote.RawPtr.{Ptr}
use Rattle.std.specs.declared.alloc.Global.{Global}
use Rattle.std.specs.contracts.impls.GlobalAllocator.TheImpl.{ghosts}
use Rattle.smtcheck_c.specs.Held.{held_at}
use Rattle.smtcheck_c.specs.contracts.feed.Feed.{the_row}
use Rattle.smtcheck_c.specs.declared.feed.Feed.{Feed}

-- the session at the pointer, if there is one, and the right to free its block
abbrev pub feed_at : Global → Ptr → Option Feed → Fml
feed_at alloc p feed = held_at (ghosts.dealloc_token alloc) the_row p feed

-- how the logic stores it
abbrev pub feed_code : Coded (Option Feed)
feed_code = coded_option (the_row).coded
