use Rattle.ks_serving.proofs.serving.serve_callers.Given as goal

abbrev pub ghosts-serve_jobs : goal.ghosts-serve_jobs
ghosts-serve_jobs g a = record {
  table = a.dictionary.arena.table.shared.table_id;
  callers = a.dictionary.arena.callers;
  nodes = a.dictionary.arena.nodes;
  scripts = a.script;
}
