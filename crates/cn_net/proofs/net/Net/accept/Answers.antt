use Rattle.cn_net.proofs.net.Net.accept.Goals as goal

pub returns : goal.returns
returns c = c.accepts_path.ensures c.args.route.now.origin
