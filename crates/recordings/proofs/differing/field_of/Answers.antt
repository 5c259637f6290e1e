use mathlib.Core.Path.{sym, ◌∙◌}
use mathlib.Core.Bool.{true, false}
use Rattle.recordings.proofs.Differences.{field_kind, field_job, field_bits, field_body, two_bodies}
use Rattle.recordings.proofs.differing.field_of.Goals as goal

pub returns-then-e-f : goal.returns-then-e-f
returns-then-e-f c = field_kind c.args.a.now c.args.b.now c.args.e c.args.f c.if-e-f.true

pub returns-then-e-f-2 : goal.returns-then-e-f-2
returns-then-e-f-2 c = field_job c.args.a.now c.args.b.now c.args.e c.args.f c.if-e-f.false c.if-e-f-2.true

pub returns-then-e-f-3 : goal.returns-then-e-f-3
returns-then-e-f-3 c =
    field_bits c.args.a.now c.args.b.now c.args.e c.args.f c.if-e-f.false c.if-e-f-2.false
    c.if-e-f-3.true

pub same_bytes-requires : goal.same_bytes-requires
same_bytes-requires c =
    two_bodies _ _ _ _ _ c.args.e.bits c.args.f.bits c.if-e-f-3.false c.bytes_for.ensures
    c.requires.0 c.requires.1

pub returns-then-same_bytes : goal.returns-then-same_bytes
returns-then-same_bytes c =
    field_body c.args.a.now c.args.b.now c.args.e c.args.f
    c.bytes_for.result true c.if-e-f.false c.if-e-f-2.false c.if-e-f-3.false
    c.bytes_for.ensures (sym c.if-same_bytes.true ∙ c.same_bytes.ensures)

pub returns : goal.returns
returns c =
    field_body c.args.a.now c.args.b.now c.args.e c.args.f
    c.bytes_for.result false c.if-e-f.false c.if-e-f-2.false c.if-e-f-3.false
    c.bytes_for.ensures (sym c.if-same_bytes.false ∙ c.same_bytes.ensures)
