use Rattle.std.proofs.Common.{inl, inr, ap, ◌∙◌}
use Rattle.rl_replay.specs.declared.script.Line.{Line}
use Rattle.rl_playback.proofs.LineLaws.{piece_finds, piece_room, piece_stands, end_finds, end_stands, entry_there, opening_admitted, opening_stands, pick_stands, say_stands}
use Rattle.rl_playback.proofs.Results.{on_ok}
use Rattle.rl_playback.proofs.playback.play_line.Goals as goal

pub feed-requires-clause-live : goal.feed-requires-clause-live
feed-requires-clause-live c =
    piece_finds c.args.settings c.args.lines.now c.args.place c.args.tables.now c.args.log.now c.args.sessions.now c.index-lines-place.result c.requires.place c.index-lines-place.is c.requires.stands
    c.in-Piece.name c.in-Piece.piece (ap (λ (l : Line). l.event) c.index-lines-place.is ∙ c.in-Piece.is) c.bytes-in-Piece.result.now c.bytes-in-Piece.ensures

pub finish-requires : goal.finish-requires
finish-requires c =
    end_finds c.args.settings c.args.lines.now c.args.place c.args.tables.now c.args.log.now c.args.sessions.now c.index-lines-place.result c.requires.place c.index-lines-place.is c.requires.stands
    c.in-End.name (ap (λ (l : Line). l.event) c.index-lines-place.is ∙ c.in-End.is) c.bytes-in-End.result.now c.bytes-in-End.ensures

pub open-requires-clause-exists : goal.open-requires-clause-exists
open-requires-clause-exists c =
    entry_there c.args.settings c.args.lines.now c.args.place c.args.tables.now c.args.log.now c.args.sessions.now c.index-lines-place.result c.requires.place c.index-lines-place.is c.requires.stands
    c.in-Open.name c.in-Open.entry (ap (λ (l : Line). l.event) c.index-lines-place.is ∙ c.in-Open.is)

pub open-requires-clause-admitted : goal.open-requires-clause-admitted
open-requires-clause-admitted c =
    opening_admitted c.args.settings c.args.lines.now c.args.place c.args.tables.now c.args.log.now c.args.sessions.now c.index-lines-place.result c.requires.place c.index-lines-place.is c.requires.stands
    c.in-Open.name c.in-Open.entry (ap (λ (l : Line). l.event) c.index-lines-place.is ∙ c.in-Open.is) c.bytes.result.now c.bytes.ensures

pub feed-requires-clause-room : goal.feed-requires-clause-room
feed-requires-clause-room c =
    piece_room c.args.settings c.args.lines.now c.args.place c.args.tables.now c.args.log.now c.args.sessions.now c.index-lines-place.result c.requires.place c.index-lines-place.is c.requires.stands
    c.in-Piece.name c.in-Piece.piece (ap (λ (l : Line). l.event) c.index-lines-place.is ∙ c.in-Piece.is) c.bytes-in-Piece.result.now c.as_slice.result.now c.bytes-in-Piece.ensures c.as_slice.ensures

pub returns-in-Piece : goal.returns-in-Piece
returns-in-Piece c =
    on_ok c.feed.result
    (λ h. piece_stands c.args.settings c.args.lines.now c.args.place c.args.tables.now c.args.log.now c.args.sessions.now c.index-lines-place.result c.requires.place c.index-lines-place.is c.requires.stands
    c.in-Piece.name c.in-Piece.piece (ap (λ (l : Line). l.event) c.index-lines-place.is ∙ c.in-Piece.is) c.bytes-log.result c.bytes-in-Piece.result.now c.as_slice.result.now c.bytes-log.ensures c.bytes-in-Piece.ensures c.as_slice.ensures
    c.feed.new.log c.feed.new.sessions h)
    c.feed.ensures

pub returns-in-End : goal.returns-in-End
returns-in-End c =
    on_ok c.finish.result
    (λ h. end_stands c.args.settings c.args.lines.now c.args.place c.args.tables.now c.args.log.now c.args.sessions.now c.index-lines-place.result c.requires.place c.index-lines-place.is c.requires.stands
    c.in-End.name (ap (λ (l : Line). l.event) c.index-lines-place.is ∙ c.in-End.is) c.bytes-log-in-End.result c.bytes-in-End.result.now c.bytes-log-in-End.ensures c.bytes-in-End.ensures c.finish.new.log c.finish.new.sessions h)
    c.finish.ensures

pub returns-in-Open : goal.returns-in-Open
returns-in-Open c =
    on_ok c.open.result
    (λ h. opening_stands c.args.settings c.args.lines.now c.args.place c.args.tables.now c.args.log.now c.args.sessions.now c.index-lines-place.result c.requires.place c.index-lines-place.is c.requires.stands
    c.in-Open.name c.in-Open.entry (ap (λ (l : Line). l.event) c.index-lines-place.is ∙ c.in-Open.is) c.bytes.result.now c.bytes.ensures c.open.new.sessions h)
    c.open.ensures

pub returns-in-Pick : goal.returns-in-Pick
returns-in-Pick c = elim c.in-Pick.is [
  | inl p ↦ pick_stands c.args.settings c.args.lines.now c.args.place c.args.tables.now c.args.log.now c.args.sessions.now c.index-lines-place.result c.requires.place c.index-lines-place.is c.requires.stands
      p.0 p.1 p.2 p.3 (ap (λ (l : Line). l.event) c.index-lines-place.is ∙ p.4)
  | inr p ↦ say_stands c.args.settings c.args.lines.now c.args.place c.args.tables.now c.args.log.now c.args.sessions.now c.index-lines-place.result c.requires.place c.index-lines-place.is c.requires.stands
      p.0 p.1 p.2 p.3 (ap (λ (l : Line). l.event) c.index-lines-place.is ∙ p.4)
]

pub returns-in-Pick-2 : goal.returns-in-Pick-2
returns-in-Pick-2 c = elim c.in-Pick.is [
  | inl p ↦ pick_stands c.args.settings c.args.lines.now c.args.place c.args.tables.now c.args.log.now c.args.sessions.now c.index-lines-place.result c.requires.place c.index-lines-place.is c.requires.stands
      p.0 p.1 p.2 p.3 (ap (λ (l : Line). l.event) c.index-lines-place.is ∙ p.4)
  | inr p ↦ say_stands c.args.settings c.args.lines.now c.args.place c.args.tables.now c.args.log.now c.args.sessions.now c.index-lines-place.result c.requires.place c.index-lines-place.is c.requires.stands
      p.0 p.1 p.2 p.3 (ap (λ (l : Line). l.event) c.index-lines-place.is ∙ p.4)
]
