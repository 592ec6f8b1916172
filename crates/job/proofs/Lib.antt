mod RefusedEntry
