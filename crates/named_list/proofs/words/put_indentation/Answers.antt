-- `named_list::words::put_indentation`: the front of 64 spaces. Assumes nothing.
use Rattle.named_list.proofs.Showing.{spaces_put}
use Rattle.named_list.proofs.words.put_indentation.Goals as goal

pub returns : goal.returns
returns c = spaces_put c.requires.0 c.put_text.ensures
