use Rattle.std.proofs.Common.{◌∙◌, codes, sym}
use Rattle.clap.specs.Words.{found_of}
use Rattle.clap.proofs.WalkLemmas.{first_value-rows}
use Rattle.xw_arguments.proofs.arguments.session_files.Goals as goal

pub returns-clause-files : goal.returns-clause-files
returns-clause-files c =
    let found = found_of c.args.matches.now in
    record {
      dict = c.get_str.ensures ∙ first_value-rows found (codes "dict");
      from_file = c.get_str-2.ensures ∙ first_value-rows found (codes "from");
      resume_file = c.get_str-3.ensures ∙ first_value-rows found (codes "resume");
      to_file = c.get_str-4.ensures ∙ first_value-rows found (codes "to");
      save_file = c.get_str-5.ensures ∙ first_value-rows found (codes "save");
      journal_file = c.get_str-6.ensures ∙ first_value-rows found (codes "journal");
      synced = c.is_set.ensures;
      progress = c.is_set-2.ensures;
      fits = sym c.clash_found.ensures ∙ c.in_default.is;
    }
