use Rattle.std.proofs.Common.{arith, length, ◌<◌}
use Rattle.script_lang.proofs.States.{places_found}
use Rattle.script_lang.proofs.reading.Reading.session.Goals as goal

pub returns : goal.returns
returns c =
    let within : c.args.session < length c.args.self.now.sessions.items = omega (arith, c.requires.counted.seventeen) in
    places_found c.args.self.now.lines.items c.args.self.now.sessions.items c.args.self.now.owners c.args.session c.index.result.now within c.index.ensures
