use Rattle.std.proofs.Common.{◌∙◌}
use Rattle.drawn_places.proofs.Drawn.{search-among}
use Rattle.drawn_places.proofs.is_among.Goals as goal

pub returns : goal.returns
returns c = c.is_ok.ensures.value ∙ search-among c.args.places.now c.args.place c.binary_search.result c.requires c.binary_search.ensures.position
