use Rattle.am_answer.specs.Games.{most_games}
use Rattle.am_inputs.proofs.GamesRead.{roots-of, few-roots}
use Rattle.am_inputs.proofs.boards.read_roots.Goals as goal

pub returns-clause-roots : goal.returns-clause-roots
returns-clause-roots c = roots-of c.roots_of.result c.args.files.now c.games.result.now c.layouts.result.now c.games.ensures c.layouts.ensures c.roots_of.ensures.roots

pub returns-clause-few : goal.returns-clause-few
returns-clause-few c = few-roots c.roots_of.result c.args.files.now c.games.result.now c.layouts.result.now c.games.ensures c.layouts.ensures c.roots_of.ensures.roots most_games c.requires.few
