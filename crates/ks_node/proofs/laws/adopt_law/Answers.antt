use Rattle.ks_node.proofs.laws.adopt_law.Goals as goal

pub returns : goal.returns
returns g c promised branch less inside free = (g.met.N.Node.adopting promised c.args.node.now).inside c.args.cut branch less inside free
