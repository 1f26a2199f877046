use Rattle.tree_document.proofs.Walks.{path_leads}
use Rattle.tree_document.proofs.walking.node_of.Goals as goal

pub returns : goal.returns
returns c =
    path_leads c.args.tree.now c.args.path.now c.as_bytes.result.now c.names_lead.result c.as_bytes.ensures.path c.as_bytes.ensures.bytes c.names_lead.ensures
