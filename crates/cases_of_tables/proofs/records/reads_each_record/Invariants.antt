use Rattle.cases_of_tables.proofs.records.reads_each_record.Given as goal

abbrev pub ghosts-reads_all : goal.ghosts-reads_all
ghosts-reads_all g a = record { name = a.blank.name; parts = a.blank.parts }
