use Rattle.clap.specs.Words.{app_of}
use Rattle.command_line.proofs.MatchLemmas.{are_matches, refused_fault}
use Rattle.command_line.proofs.options.matched.Goals as goal

pub returns-in-Ok : goal.returns-in-Ok
returns-in-Ok c = are_matches (app_of c.args.command) _ c.in-Ok.matches c.requires (c.in-Ok.ensures.kinds c.requires) c.in-Ok.ensures.matches

pub returns-in-Err : goal.returns-in-Err
returns-in-Err c =
    refused_fault (app_of c.args.command) _ c.in-Err.error c.kind.result c.refused_kind.result c.kind.ensures c.refused_kind.ensures (c.in-Err.ensures.kinds c.requires)
