-- What the streams of a run tell.
use Rattle.std.specs.Prelude.{◌≡◌, false}
use Rattle.smt_streams.specs.declared.source.Source.{Ghosts as SourceGhosts}
use Rattle.smt_dialogue.specs.Run.{Devices, IsBlamed, Tap, devices, tap}
use Rattle.smt_dialogue.specs.Session.{is_answers_ended, is_script_ended}
use Rattle.smt_dialogue.specs.Internal.RunStep.{IsSound}
use Rattle.smt_dialogue.specs.declared.runs.RunFault.{RunFault}
use Rattle.smt_dialogue.specs.declared.runs.Streams.{Streams}
use Rattle.smt_dialogue.specs.declared.outlet.Outlet.{Ghosts as OutletGhosts}
use Rattle.smt_dialogue.specs.declared.session.Session.{Session}

-- what a source tells
abbrev pub tap_of : {R : Type 0} → SourceGhosts R → R → Tap
tap_of ghosts source = tap (ghosts.to_come source) (ghosts.has_ended source)

module _ {R1 R2 L V : Type 0} (of_script : SourceGhosts R1) (of_answers : SourceGhosts R2)
    (of_lines : OutletGhosts L) where
  -- what both sources tell, and what was put
  abbrev pub devices_of : Streams R1 R2 L V → Devices
  devices_of s =
      devices (tap_of of_script s.script.now) (tap_of of_answers s.answers.now) (of_lines.taken s.lines)

  -- none has failed, and the session was told the ends that the sources have told
  pub record AreSound (session : Session) (s : Streams R1 R2 L V) : Type 0 where
    pub script : IsSound (is_script_ended session) (tap_of of_script s.script.now) (of_script.is_broken s.script.now)
    pub answers : IsSound (is_answers_ended session) (tap_of of_answers s.answers.now)
        (of_answers.is_broken s.answers.now)
    pub lines : of_lines.is_broken s.lines ≡ false

  -- only one that has failed is blamed
  abbrev pub IsBlamedIn : RunFault → Streams R1 R2 L V → Type 0
  IsBlamedIn fault s =
      IsBlamed fault (of_script.is_broken s.script.now) (of_answers.is_broken s.answers.now)
      (of_lines.is_broken s.lines)

-- the streams are the same still
pub record SameReferences {R1 R2 L V : Type 0} (of_lines : OutletGhosts L) (before after : Streams R1 R2 L V)
    : Type 0 where
  pub script : after.script.ghost_name ≡ before.script.ghost_name
  pub answers : after.answers.ghost_name ≡ before.answers.ghost_name
  pub lines : of_lines.reference after.lines ≡ of_lines.reference before.lines
  pub visitor : after.visitor.ghost_name ≡ before.visitor.ghost_name
