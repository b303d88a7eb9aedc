use Rattle.xw_cli_files.proofs.Steps.{loaded}
use Rattle.xw_cli_files.proofs.word_list.read_dictionary.Goals as goal

pub returns-clause-ok : goal.returns-clause-ok
returns-clause-ok g c = loaded (λ bank. bank.words) c.dictionary_of.result c.args.file.now c.as_slice-list.result.now c.in_ok-bytes.bytes.items c.args.desk.now c.read_file.new.self c.tell_loading.new.desk c.dictionary_of.new.desk
    c.as_slice-list.ensures.value c.in_ok-bytes.ensures.ok c.in_ok-tell_loading.ensures.told c.dictionary_of.ensures.words c.dictionary_of.ensures.told
