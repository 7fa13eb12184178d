use Rattle.rf_cli.proofs.Headline as headline
use Rattle.rf_cli.proofs.whole_run.run.Goals as goal

pub returns-clause-ok : goal.returns-clause-ok
returns-clause-ok g c = headline.ok c.args.words.now _ _ c.go.result c.go.ensures

pub returns-clause-refused : goal.returns-clause-refused
returns-clause-refused g c = headline.refused c.args.words.now _ _ c.go.result c.go.ensures

pub returns-clause-not_yet : goal.returns-clause-not_yet
returns-clause-not_yet g c = headline.not_yet c.args.words.now _ _ c.go.result c.go.ensures

pub returns-clause-not_yet_put : goal.returns-clause-not_yet_put
returns-clause-not_yet_put g c = headline.not_yet_put c.args.words.now _ _ c.go.result c.go.ensures

pub returns-clause-write_fault : goal.returns-clause-write_fault
returns-clause-write_fault g c = headline.write_fault c.args.words.now _ _ c.go.result c.go.ensures

pub returns-clause-write_fault_whole : goal.returns-clause-write_fault_whole
returns-clause-write_fault_whole g c = headline.write_fault_whole c.args.words.now _ _ c.go.result c.go.ensures

pub returns-clause-exact : goal.returns-clause-exact
returns-clause-exact g c = headline.exact c.args.words.now _ _ c.go.result c.go.ensures

pub returns-clause-unchanged : goal.returns-clause-unchanged
returns-clause-unchanged g c = headline.unchanged c.args.words.now _ _ c.go.result c.go.ensures

pub returns-clause-touched : goal.returns-clause-touched
returns-clause-touched g c = headline.touched c.args.words.now _ _ c.go.result c.go.ensures

pub returns-clause-counts : goal.returns-clause-counts
returns-clause-counts g c = headline.counts c.args.words.now _ _ c.go.result c.go.ensures

pub returns-clause-honest : goal.returns-clause-honest
returns-clause-honest g c = headline.honest c.args.words.now _ _ c.go.result c.go.ensures

pub returns-clause-puts : goal.returns-clause-puts
returns-clause-puts g c = headline.puts c.args.words.now _ _ c.go.result c.go.ensures

pub returns-clause-bad_words : goal.returns-clause-bad_words
returns-clause-bad_words g c = λ is. (headline.bad_words c.args.words.now _ _ c.go.result c.go.ensures is).0

pub returns-clause-bad_words_put : goal.returns-clause-bad_words_put
returns-clause-bad_words_put g c = λ is. (headline.bad_words c.args.words.now _ _ c.go.result c.go.ensures is).1

pub returns-clause-read_fault : goal.returns-clause-read_fault
returns-clause-read_fault g c = λ is. (headline.read_fault c.args.words.now _ _ c.go.result c.go.ensures is).0

pub returns-clause-read_fault_put : goal.returns-clause-read_fault_put
returns-clause-read_fault_put g c = λ is. (headline.read_fault c.args.words.now _ _ c.go.result c.go.ensures is).1

pub returns-clause-bad_rules : goal.returns-clause-bad_rules
returns-clause-bad_rules g c = headline.bad_rules c.args.words.now _ _ c.go.result c.go.ensures

pub returns-clause-too_large : goal.returns-clause-too_large
returns-clause-too_large g c = headline.too_large c.args.words.now _ _ c.go.result c.go.ensures
