use Rattle.std.proofs.Common.{length, ap, refl, sym, subst, arith}
use Rattle.build_manifest.specs.declared.command.Args.TheVariants.{Line}
use Rattle.build_manifest.specs.declared.command.Command.{Command}
use Rattle.build_manifest.specs.Command.{IsCommand, has_nul}
use Rattle.build_manifest.proofs.tests.parts.shell.Goals as goal

pub returns-clause-is : goal.returns-clause-is
returns-clause-is c =
    subst (λ (k : Command). IsCommand (record k {
      inputs = c.args.inputs;
      follow = c.args.follow;
      outputs = c.args.outputs;
      args = Line c.new.result;
      deps = c.args.deps;
    })) (sym c.bare-command.ensures) (record {
      few_nodes = omega arith;
      few_outputs = omega arith;
      few_deps = omega arith;
      inputs = c.requires.inputs;
      follow = c.requires.follow;
      outputs = c.requires.outputs;
      own = (
        record { args = ap has_nul c.new.ensures; env = λ v i. absurd i; deps = c.requires.deps },
        refl,
        record { expected = refl; roots = refl },
      );
      light = omega (arith, ap length c.new.ensures);
    })
