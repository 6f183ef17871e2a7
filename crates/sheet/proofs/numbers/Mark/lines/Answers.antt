-- `sheet::numbers::Mark::lines` meets its contract, by the meaning of each mark. Assumes nothing.
use mathlib.Core.Path.{◌≡◌, ap}
use borrow.Author.Rules.{rules}
use mir.Syntax.{w32}
use mir.Val.{to_z, of_z}
use Rattle.scope.specs.Sheet.{number_text}
use Rattle.sheet.specs.Marks.{octet_of}
use Rattle.sheet.specs.Laws.Numbers.{pressure_keys, meant_position, meant_altitude, meant_offset, meant_pressure, meant_hidden, meant_alone, keyed_one, keyed_two, keyed_hidden}
use Rattle.sheet.proofs.numbers.Mark.lines.Goals as goal

pub returns-in-Position : goal.returns-in-Position
returns-in-Position c =
    let a = c.args in
    keyed_two a.numbers.now a.slot (meant_position _ a.name.now (ap octet_of c.in-Position.is)) c.position_at.ensures.0 c.position_at.ensures.1 c.lines.ensures

pub returns-in-Altitude : goal.returns-in-Altitude
returns-in-Altitude c =
    let a = c.args in
    keyed_two a.numbers.now a.slot (meant_altitude _ a.name.now (ap octet_of c.in-Altitude.is)) c.altitude_at.ensures.0 c.altitude_at.ensures.1 c.altitude_lines.ensures

pub returns-in-Offset : goal.returns-in-Offset
unfolding number_text
returns-in-Offset c =
    let a = c.args in
    let n = c.offset_at.result.tos in
    let same : to_z w32 (of_z w32 n) ≡ n = search rules in
    keyed_one a.numbers.now a.slot (meant_offset _ a.name.now (ap octet_of c.in-Offset.is)) c.offset_at.ensures (rw same at c.pair.ensures)

pub returns-in-Pressure : goal.returns-in-Pressure
unfolding number_text
returns-in-Pressure c =
    let a = c.args in
    let n = c.number_at-setting.result in
    let same : to_z w32 (of_z w32 n) ≡ n = search rules in
    keyed_one a.numbers.now a.slot (meant_pressure _ a.name.now (ap octet_of c.in-Pressure.is)) c.number_at-setting.ensures
    (pressure_keys a.name.now n (rw same at c.pair-in-Pressure.ensures) (rw same at c.lines-in-Pressure.ensures))

pub returns-in-Hidden : goal.returns-in-Hidden
returns-in-Hidden c =
    let a = c.args in
    keyed_hidden a.numbers.now a.slot (meant_hidden _ a.name.now (ap octet_of c.in-Hidden.is)) _ _

pub returns-in-Alone : goal.returns-in-Alone
unfolding number_text
returns-in-Alone c =
    let a = c.args in
    let n = c.number_at.result in
    let same : to_z w32 (of_z w32 n) ≡ n = search rules in
    keyed_one a.numbers.now a.slot (meant_alone _ a.name.now (ap octet_of c.in-Alone.is)) c.number_at.ensures (rw same at c.pair-in-Alone.ensures)
